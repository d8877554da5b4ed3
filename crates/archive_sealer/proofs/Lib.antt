-- serves `items`: one step of its pass
pub mod ItemsStepLemmas
-- serves `last_place` and `place_after`: the places of windows
pub mod PlaceLemmas
-- serves `subscription` and `archive`: each as a document of the one form
pub mod DocumentFormLemmas
-- serves `copies`: its walk along the order
pub mod CopiesLemmas
-- serves `Window`: its numbers
pub mod WindowCountLemmas
-- serves `Window::commit`: the items
pub mod WindowItemsLemmas
-- serves `Window`: what it keeps
pub mod WindowLemmas
-- serves `Window::document`, `Window::subscription` and `Window::archive`
pub mod WindowFormLemmas
-- serves callers of `Window::prepare` and `Window::commit`
pub mod FeedLemmas

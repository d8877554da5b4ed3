-- The reply to a request of a page.
use Rattle.std.specs.Prelude.{Option, option_map}
use Rattle.feed_recovery.specs.Store.{StoreValue}
use Rattle.http_face.specs.Reply.{document_reply, not_allowed, not_implemented}
use Rattle.http_face.specs.Request.{RequestValue}
use Rattle.http_face.specs.declared.reply.Allow.TheVariants.{OfArchive}
use Rattle.http_face.specs.declared.reply.Media.TheVariants as media
use Rattle.http_face.specs.declared.reply.Reply.{Reply}
use Rattle.http_face.specs.declared.request.Verb.{Verb}
use Rattle.http_face.specs.declared.request.Verb.TheVariants.{Get, Other}
use Rattle.member_rules.specs.Documents.{name_of}
use Rattle.service_face.specs.Listing.{listing_text}
use Rattle.service_face.specs.Page.{page_of}
use Rattle.service_face.specs.Service.{service_text}
use Rattle.service_face.specs.declared.page.Page.{Page}
use Rattle.service_face.specs.declared.page.Page.TheVariants.{Service, Members}

-- the reply to GET: the service document under the feed's title after the last operation, or the listing
abbrev pub shown_page : StoreValue → Page → Reply
shown_page store Service = document_reply media.Service (service_text (name_of store.head store.history))
shown_page store Members = document_reply media.Plain (listing_text store.head.name.base store.history)

-- the reply by the method; like an archive, a page allows GET alone
abbrev pub asked_reply : StoreValue → Page → Verb → Reply
asked_reply store page Get = shown_page store page
asked_reply store page Other = not_implemented
asked_reply store page _ = not_allowed OfArchive

-- the reply to a request whose target names a page, and none to another
abbrev pub service_reply : StoreValue → RequestValue → Option Reply
service_reply store request =
    option_map (λ page. asked_reply store page request.verb) (page_of store.head.name.base request.target)

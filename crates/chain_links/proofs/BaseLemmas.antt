-- A base address is its scheme, its host, its port and its path, one after another.
use Rattle.std.proofs.Common.{◌≡◌, ℕ, ◌≤◌, List, ◌++◌, length, Option, Some, None, codes, refl, sym, ap, ◌∙◌}
use Rattle.chain_links.specs.Base.{IsBase, base_text, host_text, port_text, path_text}
use Rattle.chain_links.specs.Front.{BeginsWith, is_host_end, HasHost, HasPort, IsPath}

pub spelling : (text : List ℕ) (base : IsBase text) →
    text ≡ codes "http://"
    ++ (host_text base.parts.labels ++ (port_text base.parts.port ++ path_text base.parts.segments))
unfolding base_text
spelling text base = sym base.spelt

pub port_ends_host : (port : Option ℕ) (segments : List (List ℕ)) →
    BeginsWith is_host_end (port_text port ++ path_text segments)
port_ends_host None segments = refl
port_ends_host (Some n) segments = refl

pub base_from : (text host port path : List ℕ) (number : ℕ) → length text ≤ 200 → text ≡ codes "http://" ++ host →
    HasHost host port → HasPort port number path → IsPath path → IsBase text
unfolding base_text
base_from text host port path number short scheme has_host has_port is_path = record {
  short = short;
  parts = record { labels = has_host.0; port = has_port.0; segments = is_path.0 };
  rules = record { labels = has_host.1; port = has_port.1; segments = is_path.1 };
  spelt =
      sym (scheme ∙ ap (λ x. codes "http://" ++ x) (has_host.2
      ∙ ap (λ x. host_text has_host.0 ++ x) (has_port.3 ∙ ap (λ x. port_text has_port.0 ++ x) is_path.2)));
}

use Rattle.std.proofs.Common.{◌≡◌, List, ℕ, sym, ap, subst, ◌∙◌}
use Rattle.std.specs.Ordering.{nat_cmp}
use Rattle.std.proofs.lemmas.Result.{on_ok_weaker}
use Rattle.sha2.specs.Sha256.{sha256}
use Rattle.chain_links.specs.Address.{IsAddress, printed}
use Rattle.coverage_certificate.specs.Digest.{digest_of}
use Rattle.coverage_auditor.specs.Offers.{KeepsFirst, Key, address_number, key_cmp, key_of}
use Rattle.coverage_auditor.proofs.OffersLemmas.{index-more, index-other}
use Rattle.coverage_auditor.proofs.offers.Offers.add.Goals as goal

pub returns-in_default : goal.returns-in_default
returns-in_default c pile size index =
    index-other c.args.base.now c.args.offer.now pile c.args.self.now.firsts c.args.self.now.places
    (λ a is_a there.
    let e = c.read.ensures.only a is_a (c.slice.ensures ∙ there) in
    cc (e, c.in_default.is))
    index

pub returns : goal.returns
returns c = on_ok_weaker c.keep_first-2.result (λ placed pile size index.
    let base = c.args.base.now in
    let offer = c.args.offer.now in
    let a = c.in-Some.address in
    let firsts = c.args.self.now.firsts in
    let places = c.args.self.now.places in
    let number = c.address_number-number.ensures in
    let digest : c.digest-digest.result ≡ digest_of offer.bytes =
    c.digest-digest.ensures ∙ ap sha256 c.slice-2.ensures in
    let first : KeepsFirst nat_cmp firsts c.keep_first.new.map (address_number a) (digest_of offer.bytes) =
    subst (λ n. KeepsFirst nat_cmp firsts c.keep_first.new.map n (digest_of offer.bytes)) number
    (subst (λ d. KeepsFirst nat_cmp firsts c.keep_first.new.map c.address_number-number.result d) digest
    c.in_ok-keep_first.ensures) in
    let place : KeepsFirst key_cmp places c.keep_first-2.new.map (key_of a (digest_of offer.bytes)) c.args.at =
    subst (λ n. KeepsFirst key_cmp places c.keep_first-2.new.map (n, digest_of offer.bytes) c.args.at) number
    (subst (λ d. KeepsFirst key_cmp places c.keep_first-2.new.map (c.address_number-number.result, d) c.args.at)
    digest placed) in
    index-more base offer a pile firsts c.keep_first.new.map places c.keep_first-2.new.map
    c.in-Some.ensures.found.0 (sym c.slice.ensures ∙ c.in-Some.ensures.found.1) first
    (subst (λ at. KeepsFirst key_cmp places c.keep_first-2.new.map (key_of a (digest_of offer.bytes)) at) (sym size)
    place)
    index) c.keep_first-2.ensures

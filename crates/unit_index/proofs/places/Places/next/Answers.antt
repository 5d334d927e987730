use Rattle.std.proofs.Common.{arith, refl, ap, ◌∙◌}
use Rattle.std.specs.List.{slice_get}
use Rattle.unit_index.specs.Places.{next_from}
use Rattle.unit_index.proofs.PlaceLemmas.{looked, link_is_there, next_is, next_code_is}
use Rattle.unit_index.proofs.places.Places.next.Goals as goal

pub index-requires : goal.index-requires
index-requires c =
    let many = c.self.inside.links.nexts.ok.0 in
    let short = link_is_there _ _ _ c.in_ok-code.field-0.now _ c.self.invariant (looked _ _ _ _ c.deref.ensures.value c.in_ok-code.ensures.lookup.3.0 c.in_ok-code.ensures.lookup.1) in
    omega (arith, many, short)

pub seek-requires-clause-from : goal.seek-requires-clause-from
seek-requires-clause-from c =
    (next_is _ _ _ _ c.in_ok-code.field-0.now _ _ c.self.invariant (looked _ _ _ _ c.deref.ensures.value c.in_ok-code.ensures.lookup.3.0 c.in_ok-code.ensures.lookup.1) refl c.index.ensures).way

pub returns : goal.returns
returns c =
    next_code_is _ _ _ c.in_ok-code.field-0.now _ _ _ c.self.invariant (looked _ _ _ _ c.deref.ensures.value c.in_ok-code.ensures.lookup.3.0 c.in_ok-code.ensures.lookup.1) c.index.ensures c.seek.ensures
    ∙ ap (λ codes. next_from (slice_get codes c.args.place) c.args.place codes) c.self.view_is

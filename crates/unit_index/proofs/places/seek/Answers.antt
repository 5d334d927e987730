use Rattle.std.proofs.Common.{arith}
use Rattle.unit_index.proofs.PlaceLemmas.{looked, sought_turns, link_is_there, nearer}
use Rattle.unit_index.proofs.places.seek.Goals as goal

pub index-requires : goal.index-requires
index-requires c =
    let many = c.args.links.now.nexts.ok.0 in
    let short = link_is_there _ _ _ c.in-Some.found.now _ c.requires.linked (looked _ _ _ _ c.deref.ensures.value c.in-Some.ensures.lookup.3.0 c.in-Some.ensures.lookup.1) in
    omega (arith, many, short)

pub places-smaller : goal.places-smaller
places-smaller c = nearer _ c.in-Some.found.now _ _ (looked _ _ _ _ c.deref.ensures.value c.in-Some.ensures.lookup.3.0 c.in-Some.ensures.lookup.1) (sought_turns _ _ _ _ _ c.in-Some.found.now _ _ c.requires.linked (looked _ _ _ _ c.deref.ensures.value c.in-Some.ensures.lookup.3.0 c.in-Some.ensures.lookup.1) c.if-found-code.false c.index.ensures c.places.invariant).0

pub places-preserved : goal.places-preserved
places-preserved c = (sought_turns _ _ _ _ _ c.in-Some.found.now _ _ c.requires.linked (looked _ _ _ _ c.deref.ensures.value c.in-Some.ensures.lookup.3.0 c.in-Some.ensures.lookup.1) c.if-found-code.false c.index.ensures c.places.invariant).1

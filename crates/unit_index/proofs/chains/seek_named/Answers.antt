use Rattle.std.proofs.Common.{sym}
use Rattle.unit_index.specs.Codes.{by_name}
use Rattle.unit_index.specs.Speaking.{is_named}
use Rattle.unit_index.proofs.PlaceLemmas.{key_begins, is_somewhere, key_found, key_missing, key_goes_on, key_nears}
use Rattle.unit_index.proofs.WalkLemmas.{name_number}
use Rattle.unit_index.proofs.chains.seek_named.Goals as goal

pub places-init : goal.places-init
places-init c = key_begins _ _ _ _ _ c.requires.from

pub returns-in_default-entity_at : goal.returns-in_default-entity_at
returns-in_default-entity_at c = is_somewhere by_name _ _ _ _ _ c.requires.codes c.in-Some.is c.places.invariant.code c.in_default-entity_at.ensures

pub returns-then-is_named : goal.returns-then-is_named
returns-then-is_named c = key_found (is_named c.args.anchor.now) _ _ _ _ _ _ c.in-Some-entity_at.entity.now c.in-Some.is c.in-Some-entity_at.ensures (sym c.if-is_named.ensures) c.places.invariant

pub places-smaller : goal.places-smaller
places-smaller c = key_nears by_name _ _ _ _ _ _ c.requires.codes c.in-Some.is c.places.invariant.code c.next-at.ensures

pub places-preserved : goal.places-preserved
places-preserved c =
    key_goes_on (is_named c.args.anchor.now) by_name _ _ _ _ _ _ _ c.in-Some-entity_at.entity.now (record { codes = c.requires.codes; within = name_number c.args.anchor.now }) c.in-Some.is c.in-Some-entity_at.ensures (sym c.if-is_named.ensures) c.next-at.ensures c.places.invariant

pub returns : goal.returns
returns c = key_missing (is_named c.args.anchor.now) _ _ _ _ _ c.in_default.is c.places.invariant

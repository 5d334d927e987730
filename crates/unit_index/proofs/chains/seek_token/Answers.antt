use Rattle.std.proofs.Common.{sym}
use Rattle.scope_tables.specs.Occurrences.{is_at}
use Rattle.unit_index.specs.Codes.{by_token}
use Rattle.unit_index.proofs.PlaceLemmas.{key_begins, is_somewhere, key_found, key_missing, key_goes_on, key_nears}
use Rattle.unit_index.proofs.WalkLemmas.{token_number}
use Rattle.unit_index.proofs.chains.seek_token.Goals as goal

pub places-init : goal.places-init
places-init c = key_begins _ _ _ _ _ c.requires.from

pub returns-in_default-occ_at : goal.returns-in_default-occ_at
returns-in_default-occ_at c = is_somewhere by_token _ _ _ _ _ c.requires.codes c.in-Some.is c.places.invariant.code c.in_default-occ_at.ensures

pub returns-then-is_at : goal.returns-then-is_at
returns-then-is_at c = key_found (is_at c.args.tok.now) _ _ _ _ _ _ c.in-Some-occ_at.occ.now c.in-Some.is c.in-Some-occ_at.ensures (sym c.if-is_at.ensures) c.places.invariant

pub places-smaller : goal.places-smaller
places-smaller c = key_nears by_token _ _ _ _ _ _ c.requires.codes c.in-Some.is c.places.invariant.code c.next-at.ensures

pub places-preserved : goal.places-preserved
places-preserved c =
    key_goes_on (is_at c.args.tok.now) by_token _ _ _ _ _ _ _ c.in-Some-occ_at.occ.now (record { codes = c.requires.codes; within = token_number c.args.tok.now }) c.in-Some.is c.in-Some-occ_at.ensures (sym c.if-is_at.ensures) c.next-at.ensures c.places.invariant

pub returns : goal.returns
returns c = key_missing (is_at c.args.tok.now) _ _ _ _ _ c.in_default.is c.places.invariant

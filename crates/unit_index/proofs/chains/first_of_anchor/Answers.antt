use Rattle.std.proofs.Common.{nat_eq, ap, ◌∙◌}
use Rattle.unit_index.specs.Occurrences.{is_of}
use Rattle.unit_index.specs.Chains.{first_from}
use Rattle.unit_index.specs.Codes.{by_anchor}
use Rattle.unit_index.proofs.PlaceLemmas.{first_code}
use Rattle.unit_index.proofs.WalkLemmas.{anchor_number}
use Rattle.unit_index.proofs.chains.first_of_anchor.Goals as goal

pub seek_anchor-requires-clause-from : goal.seek_anchor-requires-clause-from
seek_anchor-requires-clause-from c = (first_code (is_of c.args.anchor.now) by_anchor c.args.occs.now _ _ _ (record { codes = c.requires; within = anchor_number c.args.anchor.now }) (c.first.ensures ∙ ap (λ n. first_from (nat_eq n) 0 c.args.places.now) c.anchor_code.ensures)).0

pub returns : goal.returns
returns c = c.seek_anchor.ensures ∙ (first_code (is_of c.args.anchor.now) by_anchor c.args.occs.now _ _ _ (record { codes = c.requires; within = anchor_number c.args.anchor.now }) (c.first.ensures ∙ ap (λ n. first_from (nat_eq n) 0 c.args.places.now) c.anchor_code.ensures)).1

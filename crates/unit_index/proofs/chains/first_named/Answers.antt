use Rattle.std.proofs.Common.{nat_eq, ap, ◌∙◌}
use Rattle.unit_index.specs.Speaking.{is_named}
use Rattle.unit_index.specs.Chains.{first_from}
use Rattle.unit_index.specs.Codes.{by_name}
use Rattle.unit_index.proofs.PlaceLemmas.{first_code}
use Rattle.unit_index.proofs.WalkLemmas.{name_number}
use Rattle.unit_index.proofs.chains.first_named.Goals as goal

pub seek_named-requires-clause-from : goal.seek_named-requires-clause-from
seek_named-requires-clause-from c = (first_code (is_named c.args.anchor.now) by_name c.args.entities.now _ _ _ (record { codes = c.requires; within = name_number c.args.anchor.now }) (c.first.ensures ∙ ap (λ n. first_from (nat_eq n) 0 c.args.places.now) c.anchor_code.ensures)).0

pub returns : goal.returns
returns c = c.seek_named.ensures ∙ (first_code (is_named c.args.anchor.now) by_name c.args.entities.now _ _ _ (record { codes = c.requires; within = name_number c.args.anchor.now }) (c.first.ensures ∙ ap (λ n. first_from (nat_eq n) 0 c.args.places.now) c.anchor_code.ensures)).1

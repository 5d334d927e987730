use Rattle.std.proofs.Common.{nat_eq, ap, ◌∙◌}
use Rattle.scope_tables.specs.Occurrences.{is_at}
use Rattle.unit_index.specs.Chains.{first_from}
use Rattle.unit_index.specs.Codes.{by_token}
use Rattle.unit_index.proofs.PlaceLemmas.{first_code}
use Rattle.unit_index.proofs.WalkLemmas.{token_number}
use Rattle.unit_index.proofs.chains.first_of_token.Goals as goal

pub seek_token-requires-clause-from : goal.seek_token-requires-clause-from
seek_token-requires-clause-from c = (first_code (is_at c.args.tok.now) by_token c.args.occs.now _ _ _ (record { codes = c.requires; within = token_number c.args.tok.now }) (c.first.ensures ∙ ap (λ n. first_from (nat_eq n) 0 c.args.places.now) c.token_code.ensures)).0

pub returns : goal.returns
returns c = c.seek_token.ensures ∙ (first_code (is_at c.args.tok.now) by_token c.args.occs.now _ _ _ (record { codes = c.requires; within = token_number c.args.tok.now }) (c.first.ensures ∙ ap (λ n. first_from (nat_eq n) 0 c.args.places.now) c.token_code.ensures)).1

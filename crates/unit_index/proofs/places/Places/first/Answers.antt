use Rattle.std.proofs.Common.{◌%◌, nat_eq, get_or, ap, ◌∙◌}
use Rattle.unit_index.specs.Chains.{first_from}
use Rattle.unit_index.proofs.PlaceLemmas.{first_is, first_code_is}
use Rattle.unit_index.proofs.places.Places.first.Goals as goal

pub seek-requires-clause-from : goal.seek-requires-clause-from
seek-requires-clause-from c =
    (first_is _ _ _ _ _ c.self.invariant (c.index.ensures ∙ ap (λ n. get_or c.self.inside.links.firsts.items (c.args.code % n) c.index.result.now) (c.len.ensures ∙ c.self.inside.links.firsts.ok.0))).way

pub returns : goal.returns
returns c =
    first_code_is _ _ _ _ _ _ c.self.invariant (c.index.ensures ∙ ap (λ n. get_or c.self.inside.links.firsts.items (c.args.code % n) c.index.result.now) (c.len.ensures ∙ c.self.inside.links.firsts.ok.0))
    c.seek.ensures ∙ ap (first_from (nat_eq c.args.code) 0) c.self.view_is

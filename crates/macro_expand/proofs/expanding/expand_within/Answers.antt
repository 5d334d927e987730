use Rattle.std.proofs.Common.{ℕ, List, ap, ◌∙◌}
use Rattle.std.specs.FinMap as map
use Rattle.tok_data.specs.declared.sources.TokId.{TokId}
use Rattle.macro_expand.specs.Expansion.{expanded}
use Rattle.macro_expand.specs.Room.{within}
use Rattle.macro_expand.proofs.KeepingLemmas.{within_is}
use Rattle.macro_expand.proofs.expanding.expand_within.Goals as goal

pub returns : goal.returns
returns c =
    let table = map.get c.args.table.now in
    c.told.ensures
    ∙ within_is table c.in_ok-found.found c.args.room c.args.budget c.args.tokens.now
    c.expansion.new.sets c.at_first.result c.in_ok-held.held c.at_first.ensures c.in_ok-held.ensures.value
    ∙ ap (λ (ls : List (TokId × ℕ)). within c.args.room (expanded table ls c.args.budget c.args.tokens.now))
    c.in_ok-found.ensures

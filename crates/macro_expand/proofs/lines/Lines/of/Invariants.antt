use Rattle.std.proofs.Common.{◌≡◌, length}
use Rattle.std.specs.HashMap.{get}
use Rattle.tok_data.specs.declared.sources.TokId.{TokId}
use Rattle.tok_data.specs.contracts.sources.TokIdPartialEq.TheImpl as toks
use Rattle.macro_expand.specs.Expansion.{line_in}
use Rattle.macro_expand.proofs.SiteLemmas.{line_or}
use Rattle.macro_expand.proofs.lines.Lines.of.Given as goal

abbrev pub invariant-sites : goal.invariant-sites
invariant-sites l =
    (site : TokId) → line_or l.front (get toks.eq-value.it l.found site) site ≡ line_in l.list site

abbrev pub decreases-sites : goal.decreases-sites
decreases-sites l = length l.front

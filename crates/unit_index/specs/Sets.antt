-- What sets of anchors and of tokens have.
use Rattle.std.specs.Prelude.{Bool}
use Rattle.std.specs.BTreeSet.{BTreeSet}
use Rattle.std.specs.BTreeSet as sorted
use Rattle.indexmap.specs.IndexSet.{IndexSet, contains}
use Rattle.tok_data.specs.declared.sources.TokId.{TokId}
use Rattle.scope_tables.specs.declared.entities.Anchor.{Anchor}
use Rattle.scope_tables.specs.Occurrences.{same_anchor}
use Rattle.unit_index.specs.Tokens.{tok_cmp}

unfoldable pub has_anchor : {S : Type 0} → IndexSet Anchor S → Anchor → Bool
has_anchor set q = contains same_anchor set q

unfoldable pub has_tok : BTreeSet TokId → TokId → Bool
has_tok set q = sorted.contains tok_cmp set q

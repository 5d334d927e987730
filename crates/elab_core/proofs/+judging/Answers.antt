use Rattle.std.proofs.Common.{rules, ◌≡◌, refl, List, ◌∷◌, [], ◌++◌, length, sym, ap, ◌∙◌, subst, Option, Some, None, false, true, ℕ}
use Rattle.std.specs.Prelude.{codes}
use Rattle.asking.specs.Asking.{Gives, and_then}
use Rattle.asking.specs.LookUps.{Ends, run_by}
use Rattle.elab_state.specs.Comes.{Comes}
use Rattle.elab_state.specs.declared.made.Made.{Made}
use Rattle.elab_state.specs.Doings.{follow, gives, left_out}
use Rattle.type_data.specs.declared.judged.Judged.{Judged}
use Rattle.elab_state.specs.Seen.{context_of, told_of}
use Rattle.elab_state.specs.Tokens as tokens
use Rattle.elab_state.specs.Wants.{answered}
use Rattle.elab_state.specs.Words as words
use Rattle.expr_rules.specs.declared.parts.Form.TheVariants as form
use Rattle.init_rules.specs.declared.state.InitPiece.TheVariants as piece
use Rattle.tree_data.specs.Seen as seen
use Rattle.tree_data.specs.Trees as trees
use Rattle.tree_data.specs.declared.expr.Expr.{Expr}
use Rattle.tree_data.specs.declared.inits.Braces.{out-Braces}
use Rattle.tree_data.specs.declared.inits.Designator.{Designator}
use Rattle.tree_data.specs.declared.inits.Piece.{Piece}
use Rattle.tree_data.specs.declared.parts.Suffix.{Suffix}
use Rattle.tree_data.specs.declared.selections.Association.{Association}
use Rattle.tree_data.specs.declared.types.Deriving.{Deriving}
use Rattle.tree_data.specs.declared.types.Prefix.{Prefix}
use Rattle.tree_data.specs.declared.types.Specifier.{Specifier}
use Rattle.tree_data.specs.declared.members.Assertion.{out-Assertion}
use Rattle.tree_data.specs.declared.members.Enumeration.{out-Enumeration}
use Rattle.tree_data.specs.declared.members.Enumerator.{Enumerator}
use Rattle.tree_data.specs.declared.members.Field.{Field}
use Rattle.tree_data.specs.declared.members.Member.{Member}
use Rattle.head_rules.specs.Enumerators as enums
use Rattle.head_rules.specs.Fields as members_of
use Rattle.tree_data.specs.declared.parts.Choice.{Choice, out-Choice}
use Rattle.tree_data.specs.declared.types.Declarator.{out-Declarator}
use Rattle.tree_data.specs.declared.types.TypeName.{TypeName, out-TypeName}
use Rattle.elab_core.specs.Accesses as accesses
use Rattle.elab_core.specs.Assertions as asserting
use Rattle.elab_core.specs.Entering as entering
use Rattle.elab_core.specs.Enumerating as enumerating
use Rattle.elab_core.specs.Fielding as fielding
use Rattle.elab_core.specs.Listed as listed
use Rattle.elab_core.specs.Prototypes as protos
use Rattle.elab_core.specs.TagBodies as bodies
use Rattle.elab_core.specs.Braced as braced
use Rattle.elab_core.specs.Casts as casts
use Rattle.elab_core.specs.Ends as ends
use Rattle.elab_core.specs.Expressions as spec
use Rattle.elab_core.specs.Generics as choosing
use Rattle.elab_core.specs.Literals as literals
use Rattle.elab_core.specs.Offsets as ways
use Rattle.elab_core.specs.Operators as operators
use Rattle.elab_core.specs.Entries as entries
use Rattle.elab_core.specs.Parameters as parameters
use Rattle.elab_core.specs.Rows as rows
use Rattle.type_data.specs.Types as types
use Rattle.type_data.specs.declared.qualifiers.Extent.TheVariants as extent
use Rattle.type_data.specs.declared.qualifiers.Proto.TheVariants as proto
use Rattle.elab_core.specs.Specifiers as specifiers
use Rattle.elab_core.specs.Steps as steps
use Rattle.elab_core.specs.Tags as tags
use Rattle.elab_core.specs.Waits as waits
use Rattle.elab_core.specs.declared.generics.Choices.{Choices}
use Rattle.elab_core.specs.declared.offsets.Way.{Way}
use Rattle.elab_core.specs.declared.shapes.Filling.{Filling}
use Rattle.elab_core.specs.declared.shapes.Gathered.{Gathered}
use Rattle.elab_core.specs.declared.shapes.Step.{Step}
use Rattle.elab_core.specs.declared.shapes.Step.TheVariants as step
use Rattle.elab_core.specs.declared.shapes.Typed.{Typed}
use Rattle.elab_core.specs.declared.unary.Waiting.TheVariants as waiting
use Rattle.elab_core.proofs.Layers as layers
use Rattle.elab_core.proofs.Stacked.{entries_are}
use Rattle.elab_state.proofs.Runs.{run_then, stops_on}
use Rattle.elab_core.proofs.Turns.{on, off, comes_as, halts, leads_gives, stops_as, turns}
use Rattle.elab_core.proofs.Backward.{goes_back}
use Rattle.elab_core.proofs.+judging.Goals as goal

pub expressions::paren-returns-in-Err : goal.expressions::paren-returns-in-Err
expressions::paren-returns-in-Err t c =
    off (answered (told_of c.args.around.now)) (spec.judge (context_of c.args.around.now) c.args.place (seen.tree_of c.args.inner.now) c.args.made.now) (λ x now. rows.row (context_of c.args.around.now) c.args.at form.Paren (x ∷ []) now) c.in-Err.halt c.in-Err.ensures

pub expressions::paren-returns : goal.expressions::paren-returns
expressions::paren-returns t c =
    comes_as (told_of c.args.around.now) (spec.judge (context_of c.args.around.now) c.args.place (trees.Paren_of c.args.at (seen.tree_of c.args.inner.now) 0) c.args.made.now) (rows.row (context_of c.args.around.now) c.args.at form.Paren (c.in-Ok.done ∷ []) c.judged.new.made) (λ j. j) c.paren_row.result c.paren_row.new.made
    (on (answered (told_of c.args.around.now)) (spec.judge (context_of c.args.around.now) c.args.place (seen.tree_of c.args.inner.now) c.args.made.now) (λ x now. rows.row (context_of c.args.around.now) c.args.at form.Paren (x ∷ []) now) (c.in-Ok.done) (c.judged.new.made) c.in-Ok.ensures)
    c.paren_row.ensures

pub expressions::size_of_type-returns-in-Err : goal.expressions::size_of_type-returns-in-Err
expressions::size_of_type-returns-in-Err t c =
    off (answered (told_of c.args.around.now)) (spec.type_name (context_of c.args.around.now) spec.unevaluated (seen.type_of c.args.name.now) c.args.made.now) (λ x now. casts.size (context_of c.args.around.now) c.args.at (operators.is_alignment (tokens.spelling (context_of c.args.around.now).tokens c.args.at)) x now) c.in-Err.halt c.in-Err.ensures

pub expressions::size_of_type-returns : goal.expressions::size_of_type-returns
expressions::size_of_type-returns t c =
    comes_as (told_of c.args.around.now) (spec.judge (context_of c.args.around.now) c.args.place (trees.Of_type c.args.at 0 (seen.type_of c.args.name.now) 0) c.args.made.now) (casts.size (context_of c.args.around.now) c.args.at (operators.is_alignment (tokens.spelling (context_of c.args.around.now).tokens c.args.at)) c.in-Ok.done c.type_name.new.made) (λ j. j) c.size_by_keyword.result c.size_by_keyword.new.made
    (on (answered (told_of c.args.around.now)) (spec.type_name (context_of c.args.around.now) spec.unevaluated (seen.type_of c.args.name.now) c.args.made.now) (λ x now. casts.size (context_of c.args.around.now) c.args.at (operators.is_alignment (tokens.spelling (context_of c.args.around.now).tokens c.args.at)) x now) (c.in-Ok.done) (c.type_name.new.made) c.in-Ok.ensures)
    c.size_by_keyword.ensures

pub postfix::operand-returns-in-Err : goal.postfix::operand-returns-in-Err
postfix::operand-returns-in-Err t c =
    off (answered (told_of c.args.around.now)) (spec.judge (context_of c.args.around.now) c.args.place (seen.tree_of c.args.right.now) c.args.made.now) (λ x now. rows.row (context_of c.args.around.now) c.args.at (operators.binary_form (tokens.spelling (context_of c.args.around.now).tokens c.args.at)) (c.args.left ∷ x ∷ []) now) c.in-Err.halt c.in-Err.ensures

pub postfix::operand-returns : goal.postfix::operand-returns
postfix::operand-returns t c =
    comes_as (told_of c.args.around.now) (spec.behind (context_of c.args.around.now) c.args.place (trees.Operand_of c.args.at (seen.tree_of c.args.right.now)) c.args.left c.args.made.now) (rows.row (context_of c.args.around.now) c.args.at (operators.binary_form (tokens.spelling (context_of c.args.around.now).tokens c.args.at)) (c.args.left ∷ c.in-Ok.done ∷ []) c.judged.new.made) (λ j. j) c.operator_row.result c.operator_row.new.made
    (on (answered (told_of c.args.around.now)) (spec.judge (context_of c.args.around.now) c.args.place (seen.tree_of c.args.right.now) c.args.made.now) (λ x now. rows.row (context_of c.args.around.now) c.args.at (operators.binary_form (tokens.spelling (context_of c.args.around.now).tokens c.args.at)) (c.args.left ∷ x ∷ []) now) (c.in-Ok.done) (c.judged.new.made) c.in-Ok.ensures)
    c.operator_row.ensures

pub postfix::index-returns-in-Err : goal.postfix::index-returns-in-Err
postfix::index-returns-in-Err t c =
    off (answered (told_of c.args.around.now)) (spec.judge (context_of c.args.around.now) c.args.place (seen.tree_of c.args.inner.now) c.args.made.now) (λ x now. rows.row (context_of c.args.around.now) c.args.at form.Index (c.args.array ∷ x ∷ []) now) c.in-Err.halt c.in-Err.ensures

pub postfix::index-returns : goal.postfix::index-returns
postfix::index-returns t c =
    comes_as (told_of c.args.around.now) (spec.behind (context_of c.args.around.now) c.args.place (trees.Index_of c.args.at (seen.tree_of c.args.inner.now) 0) c.args.array c.args.made.now) (rows.row (context_of c.args.around.now) c.args.at form.Index (c.args.array ∷ c.in-Ok.done ∷ []) c.judged.new.made) (λ j. j) c.index_row.result c.index_row.new.made
    (on (answered (told_of c.args.around.now)) (spec.judge (context_of c.args.around.now) c.args.place (seen.tree_of c.args.inner.now) c.args.made.now) (λ x now. rows.row (context_of c.args.around.now) c.args.at form.Index (c.args.array ∷ x ∷ []) now) (c.in-Ok.done) (c.judged.new.made) c.in-Ok.ensures)
    c.index_row.ensures

pub postfix::first_argument-returns-in-Err : goal.postfix::first_argument-returns-in-Err
postfix::first_argument-returns-in-Err t c =
    off (answered (told_of c.args.around.now)) (spec.judge (context_of c.args.around.now) c.args.place (seen.tree_of c.args.part.now) c.args.made.now) (λ x now. gives (c.args.function ∷ x ∷ []) now) c.in-Err.halt c.in-Err.ensures

pub postfix::first_argument-returns : goal.postfix::first_argument-returns
postfix::first_argument-returns t c =
    let last : c.in-Ok-two.parts ≡ c.args.function ∷ c.in-Ok.done ∷ [] = search rules in
    on (answered (told_of c.args.around.now)) (spec.judge (context_of c.args.around.now) c.args.place (seen.tree_of c.args.part.now) c.args.made.now) (λ x now. gives (c.args.function ∷ x ∷ []) now) (c.in-Ok.done) (c.judged.new.made) c.in-Ok.ensures
    ∙ ap (λ v. Ends (v, c.judged.new.made)) (sym last)

pub postfix::argument-returns-in-Err : goal.postfix::argument-returns-in-Err
postfix::argument-returns-in-Err t c =
    off (answered (told_of c.args.around.now)) (spec.judge (context_of c.args.around.now) c.args.place (seen.tree_of c.args.part.now) c.args.made.now) (λ x now. gives (c.args.parts.now ++ x ∷ []) now) c.in-Err.halt c.in-Err.ensures

pub postfix::argument-returns : goal.postfix::argument-returns
postfix::argument-returns t c =
    let last : c.push.new.self ≡ c.args.parts.now ++ c.in-Ok.done ∷ [] = search rules in
    on (answered (told_of c.args.around.now)) (spec.judge (context_of c.args.around.now) c.args.place (seen.tree_of c.args.part.now) c.args.made.now) (λ x now. gives (c.args.parts.now ++ x ∷ []) now) (c.in-Ok.done) (c.judged.new.made) c.in-Ok.ensures
    ∙ ap (λ v. Ends (v, c.judged.new.made)) (sym last)

pub unary::cast_waits-returns-in-Err : goal.unary::cast_waits-returns-in-Err
unary::cast_waits-returns-in-Err t c =
    off (answered (told_of c.args.around.now)) (spec.type_name (context_of c.args.around.now) c.args.place (seen.type_of c.args.name.now) c.args.made.now) (λ x now. gives (c.args.place, waiting.Cast c.args.at x ∷ c.args.waiting.now) now) c.in-Err.halt c.in-Err.ensures

pub unary::cast_waits-returns : goal.unary::cast_waits-returns
unary::cast_waits-returns t c =
    let last : c.push.new.self ≡ waiting.Cast c.args.at c.in-Ok.done ∷ c.args.waiting.now = search rules in
    on (answered (told_of c.args.around.now)) (spec.type_name (context_of c.args.around.now) c.args.place (seen.type_of c.args.name.now) c.args.made.now) (λ x now. gives (c.args.place, waiting.Cast c.args.at x ∷ c.args.waiting.now) now) (c.in-Ok.done) (c.type_name.new.made) c.in-Ok.ensures
    ∙ ap (λ v. Ends ((c.args.place, v), c.type_name.new.made)) (sym last)

pub unary::choice_waits-returns-in-Err : goal.unary::choice_waits-returns-in-Err
unary::choice_waits-returns-in-Err t c =
    stops_as (run_by (answered (told_of c.args.around.now)) (follow (spec.judge (context_of c.args.around.now) c.args.place (seen.tree_of (out-Choice c.args.choice.now).test) c.args.made.now) (λ x now. follow (spec.judge (context_of c.args.around.now) c.args.place (seen.tree_of (out-Choice c.args.choice.now).middle) now) (λ j. gives (c.args.place, waiting.Choice (out-Choice c.args.choice.now).question x j ∷ c.args.waiting.now))))) (run_by (answered (told_of c.args.around.now)) (waits.await (context_of c.args.around.now) c.args.place (seen.front_of c.args.choice.now) c.args.waiting.now c.args.made.now)) c.in-Err.halt
    (sym (ap (λ x. run_by (answered (told_of c.args.around.now)) (waits.await (context_of c.args.around.now) c.args.place x c.args.waiting.now c.args.made.now)) (layers.choice_part_is c.args.choice.now)))
    (off (answered (told_of c.args.around.now)) (spec.judge (context_of c.args.around.now) c.args.place (seen.tree_of (out-Choice c.args.choice.now).test) c.args.made.now) (λ x now. follow (spec.judge (context_of c.args.around.now) c.args.place (seen.tree_of (out-Choice c.args.choice.now).middle) now) (λ j. gives (c.args.place, waiting.Choice (out-Choice c.args.choice.now).question x j ∷ c.args.waiting.now))) c.in-Err.halt c.in-Err.ensures)

pub unary::choice_waits-returns-in-Err-judged : goal.unary::choice_waits-returns-in-Err-judged
unary::choice_waits-returns-in-Err-judged t c =
    stops_as (run_by (answered (told_of c.args.around.now)) (follow (spec.judge (context_of c.args.around.now) c.args.place (seen.tree_of (out-Choice c.args.choice.now).middle) c.judged.new.made) (λ x now. gives (c.args.place, waiting.Choice (out-Choice c.args.choice.now).question c.in-Ok.done x ∷ c.args.waiting.now) now))) (run_by (answered (told_of c.args.around.now)) (waits.await (context_of c.args.around.now) c.args.place (seen.front_of c.args.choice.now) c.args.waiting.now c.args.made.now)) c.in-Err-judged.halt
    (sym (ap (λ x. run_by (answered (told_of c.args.around.now)) (waits.await (context_of c.args.around.now) c.args.place x c.args.waiting.now c.args.made.now)) (layers.choice_part_is c.args.choice.now)
    ∙ on (answered (told_of c.args.around.now)) (spec.judge (context_of c.args.around.now) c.args.place (seen.tree_of (out-Choice c.args.choice.now).test) c.args.made.now) (λ x now. follow (spec.judge (context_of c.args.around.now) c.args.place (seen.tree_of (out-Choice c.args.choice.now).middle) now) (λ j. gives (c.args.place, waiting.Choice (out-Choice c.args.choice.now).question x j ∷ c.args.waiting.now))) (c.in-Ok.done) (c.judged.new.made) c.in-Ok.ensures))
    (off (answered (told_of c.args.around.now)) (spec.judge (context_of c.args.around.now) c.args.place (seen.tree_of (out-Choice c.args.choice.now).middle) c.judged.new.made) (λ x now. gives (c.args.place, waiting.Choice (out-Choice c.args.choice.now).question c.in-Ok.done x ∷ c.args.waiting.now) now) c.in-Err-judged.halt c.in-Err-judged.ensures)

pub unary::choice_waits-returns : goal.unary::choice_waits-returns
unary::choice_waits-returns t c =
    let last : c.push.new.self ≡ waiting.Choice (out-Choice c.args.choice.now).question c.in-Ok.done c.in-Ok-judged.done ∷ c.args.waiting.now = search rules in
    ap (λ x. run_by (answered (told_of c.args.around.now)) (waits.await (context_of c.args.around.now) c.args.place x c.args.waiting.now c.args.made.now)) (layers.choice_part_is c.args.choice.now)
    ∙ on (answered (told_of c.args.around.now)) (spec.judge (context_of c.args.around.now) c.args.place (seen.tree_of (out-Choice c.args.choice.now).test) c.args.made.now) (λ x now. follow (spec.judge (context_of c.args.around.now) c.args.place (seen.tree_of (out-Choice c.args.choice.now).middle) now) (λ j. gives (c.args.place, waiting.Choice (out-Choice c.args.choice.now).question x j ∷ c.args.waiting.now))) (c.in-Ok.done) (c.judged.new.made) c.in-Ok.ensures
    ∙ on (answered (told_of c.args.around.now)) (spec.judge (context_of c.args.around.now) c.args.place (seen.tree_of (out-Choice c.args.choice.now).middle) c.judged.new.made) (λ x now. gives (c.args.place, waiting.Choice (out-Choice c.args.choice.now).question c.in-Ok.done x ∷ c.args.waiting.now) now) (c.in-Ok-judged.done) (c.judged-2.new.made) c.in-Ok-judged.ensures
    ∙ ap (λ v. Ends ((c.args.place, v), c.judged-2.new.made)) (sym last)

pub unary::place_waits-returns-in-Err : goal.unary::place_waits-returns-in-Err
unary::place_waits-returns-in-Err t c =
    off (answered (told_of c.args.around.now)) (spec.judge (context_of c.args.around.now) c.args.place (seen.tree_of c.args.left.now) c.args.made.now) (λ x now. gives (c.args.place, waiting.Left c.args.at x ∷ c.args.waiting.now) now) c.in-Err.halt c.in-Err.ensures

pub unary::place_waits-returns : goal.unary::place_waits-returns
unary::place_waits-returns t c =
    let last : c.push.new.self ≡ waiting.Left c.args.at c.in-Ok.done ∷ c.args.waiting.now = search rules in
    on (answered (told_of c.args.around.now)) (spec.judge (context_of c.args.around.now) c.args.place (seen.tree_of c.args.left.now) c.args.made.now) (λ x now. gives (c.args.place, waiting.Left c.args.at x ∷ c.args.waiting.now) now) (c.in-Ok.done) (c.judged.new.made) c.in-Ok.ensures
    ∙ ap (λ v. Ends ((c.args.place, v), c.judged.new.made)) (sym last)

pub braces::element-returns-in-Err : goal.braces::element-returns-in-Err
braces::element-returns-in-Err t c =
    off (answered (told_of c.args.around.now)) (spec.judge (context_of c.args.around.now) c.args.place (seen.tree_of c.args.index.now) c.args.made.now) (λ x now. Gives (braced.designated c.args.opening (ends.first_of (seen.tree_of c.args.index.now)) x c.args.filling.now now)) c.in-Err.halt c.in-Err.ensures

pub braces::element-returns : goal.braces::element-returns
braces::element-returns t c =
    let last : (c.designate.new.filling, c.designate.new.made) ≡ braced.designated c.args.opening (ends.first_of (seen.tree_of c.args.index.now)) c.in-Ok.done c.args.filling.now c.judged.new.made = search rules in
    on (answered (told_of c.args.around.now)) (spec.judge (context_of c.args.around.now) c.args.place (seen.tree_of c.args.index.now) c.args.made.now) (λ x now. Gives (braced.designated c.args.opening (ends.first_of (seen.tree_of c.args.index.now)) x c.args.filling.now now)) (c.in-Ok.done) (c.judged.new.made) c.in-Ok.ensures
    ∙ ap (λ r. Ends r) (sym last)

pub braces::value-returns-in-Err : goal.braces::value-returns-in-Err
braces::value-returns-in-Err t c =
    off (answered (told_of c.args.around.now)) (spec.judge (context_of c.args.around.now) c.args.place (seen.tree_of c.args.expr.now) c.args.made.now) (λ x now. Gives (braced.expressed (ends.first_of (seen.tree_of c.args.expr.now)) (ends.is_text (seen.tree_of c.args.expr.now)) x c.args.filling.now now)) c.in-Err.halt c.in-Err.ensures

pub braces::value-returns : goal.braces::value-returns
braces::value-returns t c =
    let last : (c.express.new.filling, c.express.new.made) ≡ braced.expressed (ends.first_of (seen.tree_of c.args.expr.now)) (ends.is_text (seen.tree_of c.args.expr.now)) c.in-Ok.done c.args.filling.now c.judged.new.made = search rules in
    on (answered (told_of c.args.around.now)) (spec.judge (context_of c.args.around.now) c.args.place (seen.tree_of c.args.expr.now) c.args.made.now) (λ x now. Gives (braced.expressed (ends.first_of (seen.tree_of c.args.expr.now)) (ends.is_text (seen.tree_of c.args.expr.now)) x c.args.filling.now now)) (c.in-Ok.done) (c.judged.new.made) c.in-Ok.ensures
    ∙ ap (λ r. Ends r) (sym last)

pub braces::braces-returns-in-Err : goal.braces::braces-returns-in-Err
braces::braces-returns-in-Err t c =
    let is0 : (c.fill.new.filling, c.fill.new.made) ≡ braced.filled (out-Braces c.args.list.now).opening piece.Open c.args.filling.now c.args.made.now = search rules in
    stops_as (run_by (answered (told_of c.args.around.now)) (follow (spec.piece_in (context_of c.args.around.now) c.args.place (seen.piece_of (out-Braces c.args.list.now).first) c.fill.new.filling c.fill.new.made) (λ x now. follow (spec.pieces_in (context_of c.args.around.now) c.args.place (trees.pieces (seen.pieces_of (out-Braces c.args.list.now).more.items)) x now) (λ i last. Gives (braced.filled (out-Braces c.args.list.now).closing piece.Close i last))))) (run_by (answered (told_of c.args.around.now)) (spec.braces (context_of c.args.around.now) c.args.place (seen.braces_of c.args.list.now) c.args.filling.now c.args.made.now)) c.in-Err.halt
    (sym (ap (λ x. run_by (answered (told_of c.args.around.now)) (spec.braces (context_of c.args.around.now) c.args.place x c.args.filling.now c.args.made.now)) (layers.braces_is c.args.list.now)
    ∙ ap (λ p. run_by (answered (told_of c.args.around.now)) (follow (spec.piece_in (context_of c.args.around.now) c.args.place (seen.piece_of (out-Braces c.args.list.now).first) p.0 p.1) (λ h next. follow (spec.pieces_in (context_of c.args.around.now) c.args.place (trees.pieces (seen.pieces_of (out-Braces c.args.list.now).more.items)) h next) (λ i last. Gives (braced.filled (out-Braces c.args.list.now).closing piece.Close i last))))) (sym is0)))
    (off (answered (told_of c.args.around.now)) (spec.piece_in (context_of c.args.around.now) c.args.place (seen.piece_of (out-Braces c.args.list.now).first) c.fill.new.filling c.fill.new.made) (λ x now. follow (spec.pieces_in (context_of c.args.around.now) c.args.place (trees.pieces (seen.pieces_of (out-Braces c.args.list.now).more.items)) x now) (λ i last. Gives (braced.filled (out-Braces c.args.list.now).closing piece.Close i last))) c.in-Err.halt c.in-Err.ensures)

pub braces::braces-returns-in-Err-pieces : goal.braces::braces-returns-in-Err-pieces
braces::braces-returns-in-Err-pieces t c =
    let is0 : (c.fill.new.filling, c.fill.new.made) ≡ braced.filled (out-Braces c.args.list.now).opening piece.Open c.args.filling.now c.args.made.now = search rules in
    stops_as (run_by (answered (told_of c.args.around.now)) (follow (spec.pieces_in (context_of c.args.around.now) c.args.place (trees.pieces (seen.pieces_of (out-Braces c.args.list.now).more.items)) c.piece.new.filling c.piece.new.made) (λ x now. Gives (braced.filled (out-Braces c.args.list.now).closing piece.Close x now)))) (run_by (answered (told_of c.args.around.now)) (spec.braces (context_of c.args.around.now) c.args.place (seen.braces_of c.args.list.now) c.args.filling.now c.args.made.now)) c.in-Err-pieces.halt
    (sym (ap (λ x. run_by (answered (told_of c.args.around.now)) (spec.braces (context_of c.args.around.now) c.args.place x c.args.filling.now c.args.made.now)) (layers.braces_is c.args.list.now)
    ∙ ap (λ p. run_by (answered (told_of c.args.around.now)) (follow (spec.piece_in (context_of c.args.around.now) c.args.place (seen.piece_of (out-Braces c.args.list.now).first) p.0 p.1) (λ h next. follow (spec.pieces_in (context_of c.args.around.now) c.args.place (trees.pieces (seen.pieces_of (out-Braces c.args.list.now).more.items)) h next) (λ i last. Gives (braced.filled (out-Braces c.args.list.now).closing piece.Close i last))))) (sym is0)
    ∙ on (answered (told_of c.args.around.now)) (spec.piece_in (context_of c.args.around.now) c.args.place (seen.piece_of (out-Braces c.args.list.now).first) c.fill.new.filling c.fill.new.made) (λ x now. follow (spec.pieces_in (context_of c.args.around.now) c.args.place (trees.pieces (seen.pieces_of (out-Braces c.args.list.now).more.items)) x now) (λ i last. Gives (braced.filled (out-Braces c.args.list.now).closing piece.Close i last))) (c.piece.new.filling) (c.piece.new.made) c.in-Ok-piece.ensures))
    (off (answered (told_of c.args.around.now)) (spec.pieces_in (context_of c.args.around.now) c.args.place (trees.pieces (seen.pieces_of (out-Braces c.args.list.now).more.items)) c.piece.new.filling c.piece.new.made) (λ x now. Gives (braced.filled (out-Braces c.args.list.now).closing piece.Close x now)) c.in-Err-pieces.halt c.in-Err-pieces.ensures)

pub braces::braces-returns : goal.braces::braces-returns
braces::braces-returns t c =
    let is0 : (c.fill.new.filling, c.fill.new.made) ≡ braced.filled (out-Braces c.args.list.now).opening piece.Open c.args.filling.now c.args.made.now = search rules in
    let last : (c.fill-2.new.filling, c.fill-2.new.made) ≡ braced.filled (out-Braces c.args.list.now).closing piece.Close c.pieces.new.filling c.pieces.new.made = search rules in
    ap (λ x. run_by (answered (told_of c.args.around.now)) (spec.braces (context_of c.args.around.now) c.args.place x c.args.filling.now c.args.made.now)) (layers.braces_is c.args.list.now)
    ∙ ap (λ p. run_by (answered (told_of c.args.around.now)) (follow (spec.piece_in (context_of c.args.around.now) c.args.place (seen.piece_of (out-Braces c.args.list.now).first) p.0 p.1) (λ h next. follow (spec.pieces_in (context_of c.args.around.now) c.args.place (trees.pieces (seen.pieces_of (out-Braces c.args.list.now).more.items)) h next) (λ i last. Gives (braced.filled (out-Braces c.args.list.now).closing piece.Close i last))))) (sym is0)
    ∙ on (answered (told_of c.args.around.now)) (spec.piece_in (context_of c.args.around.now) c.args.place (seen.piece_of (out-Braces c.args.list.now).first) c.fill.new.filling c.fill.new.made) (λ x now. follow (spec.pieces_in (context_of c.args.around.now) c.args.place (trees.pieces (seen.pieces_of (out-Braces c.args.list.now).more.items)) x now) (λ i last. Gives (braced.filled (out-Braces c.args.list.now).closing piece.Close i last))) (c.piece.new.filling) (c.piece.new.made) c.in-Ok-piece.ensures
    ∙ on (answered (told_of c.args.around.now)) (spec.pieces_in (context_of c.args.around.now) c.args.place (trees.pieces (seen.pieces_of (out-Braces c.args.list.now).more.items)) c.piece.new.filling c.piece.new.made) (λ x now. Gives (braced.filled (out-Braces c.args.list.now).closing piece.Close x now)) (c.pieces.new.filling) (c.pieces.new.made) c.in-Ok-pieces.ensures
    ∙ ap (λ r. Ends r) (sym last)

pub generics::choice-returns-in-Err : goal.generics::choice-returns-in-Err
generics::choice-returns-in-Err t c =
    off (answered (told_of c.args.around.now)) (spec.judge (context_of c.args.around.now) c.args.place (seen.tree_of c.args.part.now) c.args.made.now) (λ x now. gives (choosing.with_choice c.args.association x c.args.choices.now) now) c.in-Err.halt c.in-Err.ensures

pub generics::choice-returns : goal.generics::choice-returns
generics::choice-returns t c =
    let last : c.add.new.choices ≡ choosing.with_choice c.args.association c.in-Ok.done c.args.choices.now = search rules in
    on (answered (told_of c.args.around.now)) (spec.judge (context_of c.args.around.now) c.args.place (seen.tree_of c.args.part.now) c.args.made.now) (λ x now. gives (choosing.with_choice c.args.association x c.args.choices.now) now) (c.in-Ok.done) (c.judged.new.made) c.in-Ok.ensures
    ∙ ap (λ v. Ends (v, c.judged.new.made)) (sym last)

pub offsets::index-returns-in-Err : goal.offsets::index-returns-in-Err
offsets::index-returns-in-Err t c =
    off (answered (told_of c.args.around.now)) (spec.judge (context_of c.args.around.now) c.args.place (seen.tree_of c.args.inner.now) c.args.made.now) (λ x now. Gives (ways.by_index (ends.first_of (seen.tree_of c.args.inner.now)) x c.args.way.now now)) c.in-Err.halt c.in-Err.ensures

pub offsets::index-returns : goal.offsets::index-returns
offsets::index-returns t c =
    let last : (c.by_index.new.way, c.by_index.new.made) ≡ ways.by_index (ends.first_of (seen.tree_of c.args.inner.now)) c.in-Ok.done c.args.way.now c.judged.new.made = search rules in
    on (answered (told_of c.args.around.now)) (spec.judge (context_of c.args.around.now) c.args.place (seen.tree_of c.args.inner.now) c.args.made.now) (λ x now. Gives (ways.by_index (ends.first_of (seen.tree_of c.args.inner.now)) x c.args.way.now now)) (c.in-Ok.done) (c.judged.new.made) c.in-Ok.ensures
    ∙ ap (λ r. Ends r) (sym last)

pub expressions::judged-returns-in-Err : goal.expressions::judged-returns-in-Err
expressions::judged-returns-in-Err t c =
    stops_as (run_by (answered (told_of c.args.around.now)) (follow (spec.judge (context_of c.args.around.now) c.args.place (seen.tree_of c.deref-in-Postfix.result.now) c.args.made.now) (λ x now. spec.go_on (context_of c.args.around.now) c.args.place (trees.behinds (seen.suffixes_of c.in-Postfix.more.items) trees.None_behind) x now))) (run_by (answered (told_of c.args.around.now)) (spec.judge (context_of c.args.around.now) c.args.place (seen.tree_of c.args.expr.now) c.args.made.now)) c.in-Err.halt
    (sym (ap (λ x. run_by (answered (told_of c.args.around.now)) (spec.judge (context_of c.args.around.now) c.args.place x c.args.made.now)) (layers.expr_postfix c.args.expr.now c.in-Postfix.first c.in-Postfix.more c.in-Postfix.is)
    ∙ ap (λ e. run_by (answered (told_of c.args.around.now)) (spec.judge (context_of c.args.around.now) c.args.place (trees.Postfix_of (seen.tree_of e) (trees.behinds (seen.suffixes_of c.in-Postfix.more.items) trees.None_behind)) c.args.made.now)) (sym c.deref-in-Postfix.ensures)))
    (off (answered (told_of c.args.around.now)) (spec.judge (context_of c.args.around.now) c.args.place (seen.tree_of c.deref-in-Postfix.result.now) c.args.made.now) (λ x now. spec.go_on (context_of c.args.around.now) c.args.place (trees.behinds (seen.suffixes_of c.in-Postfix.more.items) trees.None_behind) x now) c.in-Err.halt c.in-Err.ensures)

pub expressions::judged-returns-in-Ok : goal.expressions::judged-returns-in-Ok
expressions::judged-returns-in-Ok t c =
    comes_as (told_of c.args.around.now) (spec.judge (context_of c.args.around.now) c.args.place (seen.tree_of c.args.expr.now) c.args.made.now) (spec.go_on (context_of c.args.around.now) c.args.place (trees.behinds (seen.suffixes_of c.in-Postfix.more.items) trees.None_behind) c.in-Ok.done c.judged.new.made) (λ j. j) c.suffixes.result c.suffixes.new.made
    (ap (λ x. run_by (answered (told_of c.args.around.now)) (spec.judge (context_of c.args.around.now) c.args.place x c.args.made.now)) (layers.expr_postfix c.args.expr.now c.in-Postfix.first c.in-Postfix.more c.in-Postfix.is)
    ∙ ap (λ e. run_by (answered (told_of c.args.around.now)) (spec.judge (context_of c.args.around.now) c.args.place (trees.Postfix_of (seen.tree_of e) (trees.behinds (seen.suffixes_of c.in-Postfix.more.items) trees.None_behind)) c.args.made.now)) (sym c.deref-in-Postfix.ensures)
    ∙ on (answered (told_of c.args.around.now)) (spec.judge (context_of c.args.around.now) c.args.place (seen.tree_of c.deref-in-Postfix.result.now) c.args.made.now) (λ x now. spec.go_on (context_of c.args.around.now) c.args.place (trees.behinds (seen.suffixes_of c.in-Postfix.more.items) trees.None_behind) x now) (c.in-Ok.done) (c.judged.new.made) c.in-Ok.ensures)
    c.suffixes.ensures

pub expressions::judged-returns-in-Err-judged : goal.expressions::judged-returns-in-Err-judged
expressions::judged-returns-in-Err-judged t c =
    stops_as (run_by (answered (told_of c.args.around.now)) (follow (spec.judge (context_of c.args.around.now) c.args.place (seen.tree_of c.deref-in-Binary.result.now) c.args.made.now) (λ x now. spec.go_on (context_of c.args.around.now) c.args.place (trees.behinds (seen.operands_of c.in-Binary.more.items) trees.None_behind) x now))) (run_by (answered (told_of c.args.around.now)) (spec.judge (context_of c.args.around.now) c.args.place (seen.tree_of c.args.expr.now) c.args.made.now)) c.in-Err-judged.halt
    (sym (ap (λ x. run_by (answered (told_of c.args.around.now)) (spec.judge (context_of c.args.around.now) c.args.place x c.args.made.now)) (layers.expr_binary c.args.expr.now c.in-Binary.first c.in-Binary.more c.in-Binary.is)
    ∙ ap (λ e. run_by (answered (told_of c.args.around.now)) (spec.judge (context_of c.args.around.now) c.args.place (trees.Binary_of (seen.tree_of e) (trees.behinds (seen.operands_of c.in-Binary.more.items) trees.None_behind)) c.args.made.now)) (sym c.deref-in-Binary.ensures)))
    (off (answered (told_of c.args.around.now)) (spec.judge (context_of c.args.around.now) c.args.place (seen.tree_of c.deref-in-Binary.result.now) c.args.made.now) (λ x now. spec.go_on (context_of c.args.around.now) c.args.place (trees.behinds (seen.operands_of c.in-Binary.more.items) trees.None_behind) x now) c.in-Err-judged.halt c.in-Err-judged.ensures)

pub expressions::judged-returns-in-Ok-judged : goal.expressions::judged-returns-in-Ok-judged
expressions::judged-returns-in-Ok-judged t c =
    comes_as (told_of c.args.around.now) (spec.judge (context_of c.args.around.now) c.args.place (seen.tree_of c.args.expr.now) c.args.made.now) (spec.go_on (context_of c.args.around.now) c.args.place (trees.behinds (seen.operands_of c.in-Binary.more.items) trees.None_behind) c.in-Ok-judged.done c.judged-in-Binary.new.made) (λ j. j) c.operands.result c.operands.new.made
    (ap (λ x. run_by (answered (told_of c.args.around.now)) (spec.judge (context_of c.args.around.now) c.args.place x c.args.made.now)) (layers.expr_binary c.args.expr.now c.in-Binary.first c.in-Binary.more c.in-Binary.is)
    ∙ ap (λ e. run_by (answered (told_of c.args.around.now)) (spec.judge (context_of c.args.around.now) c.args.place (trees.Binary_of (seen.tree_of e) (trees.behinds (seen.operands_of c.in-Binary.more.items) trees.None_behind)) c.args.made.now)) (sym c.deref-in-Binary.ensures)
    ∙ on (answered (told_of c.args.around.now)) (spec.judge (context_of c.args.around.now) c.args.place (seen.tree_of c.deref-in-Binary.result.now) c.args.made.now) (λ x now. spec.go_on (context_of c.args.around.now) c.args.place (trees.behinds (seen.operands_of c.in-Binary.more.items) trees.None_behind) x now) (c.in-Ok-judged.done) (c.judged-in-Binary.new.made) c.in-Ok-judged.ensures)
    c.operands.ensures

pub postfix::suffix-returns-in-Err : goal.postfix::suffix-returns-in-Err
postfix::suffix-returns-in-Err t c =
    stops_as (run_by (answered (told_of c.args.around.now)) (follow (follow (spec.judge (context_of c.args.around.now) c.args.place (seen.tree_of c.deref-in-CallWith.result.now) c.args.made.now) (λ k. gives (c.args.operand ∷ k ∷ []))) (λ x now. follow (spec.arguments (context_of c.args.around.now) c.args.place (trees.behinds (seen.operands_of c.in-CallWith.more.items) trees.None_behind) x now) (λ parts. rows.row (context_of c.args.around.now) c.in-CallWith.at form.Call parts)))) (run_by (answered (told_of c.args.around.now)) (spec.behind (context_of c.args.around.now) c.args.place (seen.behind_of c.args.suffix.now) c.args.operand c.args.made.now)) c.in-Err.halt
    (sym (ap (λ x. run_by (answered (told_of c.args.around.now)) (spec.behind (context_of c.args.around.now) c.args.place x c.args.operand c.args.made.now)) (layers.suffix_call_with c.args.suffix.now c.in-CallWith.at c.in-CallWith.first c.in-CallWith.more c.in-CallWith.field-3 c.in-CallWith.is)
    ∙ ap (λ e. run_by (answered (told_of c.args.around.now)) (spec.behind (context_of c.args.around.now) c.args.place (trees.Call_with_of c.in-CallWith.at (seen.tree_of e) (trees.behinds (seen.operands_of c.in-CallWith.more.items) trees.None_behind) c.in-CallWith.field-3) c.args.operand c.args.made.now)) (sym c.deref-in-CallWith.ensures)))
    (off (answered (told_of c.args.around.now)) (follow (spec.judge (context_of c.args.around.now) c.args.place (seen.tree_of c.deref-in-CallWith.result.now) c.args.made.now) (λ k. gives (c.args.operand ∷ k ∷ []))) (λ x now. follow (spec.arguments (context_of c.args.around.now) c.args.place (trees.behinds (seen.operands_of c.in-CallWith.more.items) trees.None_behind) x now) (λ parts. rows.row (context_of c.args.around.now) c.in-CallWith.at form.Call parts)) c.in-Err.halt c.in-Err.ensures)

pub postfix::suffix-returns-in-Err-arguments : goal.postfix::suffix-returns-in-Err-arguments
postfix::suffix-returns-in-Err-arguments t c =
    stops_as (run_by (answered (told_of c.args.around.now)) (follow (spec.arguments (context_of c.args.around.now) c.args.place (trees.behinds (seen.operands_of c.in-CallWith.more.items) trees.None_behind) c.in-Ok.done c.first_argument.new.made) (λ x now. rows.row (context_of c.args.around.now) c.in-CallWith.at form.Call x now))) (run_by (answered (told_of c.args.around.now)) (spec.behind (context_of c.args.around.now) c.args.place (seen.behind_of c.args.suffix.now) c.args.operand c.args.made.now)) c.in-Err-arguments.halt
    (sym (ap (λ x. run_by (answered (told_of c.args.around.now)) (spec.behind (context_of c.args.around.now) c.args.place x c.args.operand c.args.made.now)) (layers.suffix_call_with c.args.suffix.now c.in-CallWith.at c.in-CallWith.first c.in-CallWith.more c.in-CallWith.field-3 c.in-CallWith.is)
    ∙ ap (λ e. run_by (answered (told_of c.args.around.now)) (spec.behind (context_of c.args.around.now) c.args.place (trees.Call_with_of c.in-CallWith.at (seen.tree_of e) (trees.behinds (seen.operands_of c.in-CallWith.more.items) trees.None_behind) c.in-CallWith.field-3) c.args.operand c.args.made.now)) (sym c.deref-in-CallWith.ensures)
    ∙ on (answered (told_of c.args.around.now)) (follow (spec.judge (context_of c.args.around.now) c.args.place (seen.tree_of c.deref-in-CallWith.result.now) c.args.made.now) (λ k. gives (c.args.operand ∷ k ∷ []))) (λ x now. follow (spec.arguments (context_of c.args.around.now) c.args.place (trees.behinds (seen.operands_of c.in-CallWith.more.items) trees.None_behind) x now) (λ parts. rows.row (context_of c.args.around.now) c.in-CallWith.at form.Call parts)) (c.in-Ok.done) (c.first_argument.new.made) c.in-Ok.ensures))
    (off (answered (told_of c.args.around.now)) (spec.arguments (context_of c.args.around.now) c.args.place (trees.behinds (seen.operands_of c.in-CallWith.more.items) trees.None_behind) c.in-Ok.done c.first_argument.new.made) (λ x now. rows.row (context_of c.args.around.now) c.in-CallWith.at form.Call x now) c.in-Err-arguments.halt c.in-Err-arguments.ensures)

pub postfix::suffix-returns-in-Ok-arguments : goal.postfix::suffix-returns-in-Ok-arguments
postfix::suffix-returns-in-Ok-arguments t c =
    comes_as (told_of c.args.around.now) (spec.behind (context_of c.args.around.now) c.args.place (seen.behind_of c.args.suffix.now) c.args.operand c.args.made.now) (rows.row (context_of c.args.around.now) c.in-CallWith.at form.Call c.arguments.new.parts c.arguments.new.made) (λ j. j) c.call_row.result c.call_row.new.made
    (ap (λ x. run_by (answered (told_of c.args.around.now)) (spec.behind (context_of c.args.around.now) c.args.place x c.args.operand c.args.made.now)) (layers.suffix_call_with c.args.suffix.now c.in-CallWith.at c.in-CallWith.first c.in-CallWith.more c.in-CallWith.field-3 c.in-CallWith.is)
    ∙ ap (λ e. run_by (answered (told_of c.args.around.now)) (spec.behind (context_of c.args.around.now) c.args.place (trees.Call_with_of c.in-CallWith.at (seen.tree_of e) (trees.behinds (seen.operands_of c.in-CallWith.more.items) trees.None_behind) c.in-CallWith.field-3) c.args.operand c.args.made.now)) (sym c.deref-in-CallWith.ensures)
    ∙ on (answered (told_of c.args.around.now)) (follow (spec.judge (context_of c.args.around.now) c.args.place (seen.tree_of c.deref-in-CallWith.result.now) c.args.made.now) (λ k. gives (c.args.operand ∷ k ∷ []))) (λ x now. follow (spec.arguments (context_of c.args.around.now) c.args.place (trees.behinds (seen.operands_of c.in-CallWith.more.items) trees.None_behind) x now) (λ parts. rows.row (context_of c.args.around.now) c.in-CallWith.at form.Call parts)) (c.in-Ok.done) (c.first_argument.new.made) c.in-Ok.ensures
    ∙ on (answered (told_of c.args.around.now)) (spec.arguments (context_of c.args.around.now) c.args.place (trees.behinds (seen.operands_of c.in-CallWith.more.items) trees.None_behind) c.in-Ok.done c.first_argument.new.made) (λ x now. rows.row (context_of c.args.around.now) c.in-CallWith.at form.Call x now) (c.arguments.new.parts) (c.arguments.new.made) c.in-Ok-arguments.ensures)
    c.call_row.ensures

pub unary::applied-returns-in-Err : goal.unary::applied-returns-in-Err
unary::applied-returns-in-Err t c =
    stops_as (run_by (answered (told_of c.args.around.now)) (follow (waits.awaits (context_of c.args.around.now) c.args.place (trees.fronts (seen.prefixes_of c.in-Unary.prefixes.items) trees.None_before) [] c.args.made.now) (λ x now. follow (spec.judge (context_of c.args.around.now) x.0 (seen.tree_of c.in-Unary.operand.value) now) (λ j. waits.all_applied (context_of c.args.around.now) x.1 j)))) (run_by (answered (told_of c.args.around.now)) (spec.judge (context_of c.args.around.now) c.args.place (seen.tree_of c.args.expr.now) c.args.made.now)) c.in-Err.halt
    (sym (ap (λ x. run_by (answered (told_of c.args.around.now)) (spec.judge (context_of c.args.around.now) c.args.place x c.args.made.now)) (layers.expr_unary c.args.expr.now c.in-Unary.prefixes c.in-Unary.operand c.in-Unary.is)
    ∙ goes_back (answered (told_of c.args.around.now)) (context_of c.args.around.now) c.args.place (trees.fronts (seen.prefixes_of c.in-Unary.prefixes.items) trees.None_before) (λ v. spec.judge (context_of c.args.around.now) v (seen.tree_of c.in-Unary.operand.value)) c.args.made.now))
    (off (answered (told_of c.args.around.now)) (waits.awaits (context_of c.args.around.now) c.args.place (trees.fronts (seen.prefixes_of c.in-Unary.prefixes.items) trees.None_before) [] c.args.made.now) (λ x now. follow (spec.judge (context_of c.args.around.now) x.0 (seen.tree_of c.in-Unary.operand.value) now) (λ j. waits.all_applied (context_of c.args.around.now) x.1 j)) c.in-Err.halt c.in-Err.ensures)

pub unary::applied-returns-in-Err-judged : goal.unary::applied-returns-in-Err-judged
unary::applied-returns-in-Err-judged t c =
    stops_as (run_by (answered (told_of c.args.around.now)) (follow (spec.judge (context_of c.args.around.now) c.prefixes_wait.new.place (seen.tree_of c.deref.result.now) c.prefixes_wait.new.made) (λ x now. waits.all_applied (context_of c.args.around.now) c.in-Ok.done x now))) (run_by (answered (told_of c.args.around.now)) (spec.judge (context_of c.args.around.now) c.args.place (seen.tree_of c.args.expr.now) c.args.made.now)) c.in-Err-judged.halt
    (sym (ap (λ x. run_by (answered (told_of c.args.around.now)) (spec.judge (context_of c.args.around.now) c.args.place x c.args.made.now)) (layers.expr_unary c.args.expr.now c.in-Unary.prefixes c.in-Unary.operand c.in-Unary.is)
    ∙ ap (λ e. run_by (answered (told_of c.args.around.now)) (spec.judge (context_of c.args.around.now) c.args.place (trees.Unary_of (trees.fronts (seen.prefixes_of c.in-Unary.prefixes.items) trees.None_before) (seen.tree_of e)) c.args.made.now)) (sym c.deref.ensures)
    ∙ goes_back (answered (told_of c.args.around.now)) (context_of c.args.around.now) c.args.place (trees.fronts (seen.prefixes_of c.in-Unary.prefixes.items) trees.None_before) (λ v. spec.judge (context_of c.args.around.now) v (seen.tree_of c.deref.result.now)) c.args.made.now
    ∙ on (answered (told_of c.args.around.now)) (waits.awaits (context_of c.args.around.now) c.args.place (trees.fronts (seen.prefixes_of c.in-Unary.prefixes.items) trees.None_before) [] c.args.made.now) (λ x now. follow (spec.judge (context_of c.args.around.now) x.0 (seen.tree_of c.deref.result.now) now) (λ j. waits.all_applied (context_of c.args.around.now) x.1 j)) ((c.prefixes_wait.new.place, c.in-Ok.done)) (c.prefixes_wait.new.made) c.in-Ok.ensures))
    (off (answered (told_of c.args.around.now)) (spec.judge (context_of c.args.around.now) c.prefixes_wait.new.place (seen.tree_of c.deref.result.now) c.prefixes_wait.new.made) (λ x now. waits.all_applied (context_of c.args.around.now) c.in-Ok.done x now) c.in-Err-judged.halt c.in-Err-judged.ensures)

pub unary::applied-returns-in-Ok-judged : goal.unary::applied-returns-in-Ok-judged
unary::applied-returns-in-Ok-judged t c =
    comes_as (told_of c.args.around.now) (spec.judge (context_of c.args.around.now) c.args.place (seen.tree_of c.args.expr.now) c.args.made.now) (waits.all_applied (context_of c.args.around.now) c.in-Ok.done c.in-Ok-judged.done c.judged.new.made) (λ j. j) c.apply_all.result c.apply_all.new.made
    (ap (λ x. run_by (answered (told_of c.args.around.now)) (spec.judge (context_of c.args.around.now) c.args.place x c.args.made.now)) (layers.expr_unary c.args.expr.now c.in-Unary.prefixes c.in-Unary.operand c.in-Unary.is)
    ∙ ap (λ e. run_by (answered (told_of c.args.around.now)) (spec.judge (context_of c.args.around.now) c.args.place (trees.Unary_of (trees.fronts (seen.prefixes_of c.in-Unary.prefixes.items) trees.None_before) (seen.tree_of e)) c.args.made.now)) (sym c.deref.ensures)
    ∙ goes_back (answered (told_of c.args.around.now)) (context_of c.args.around.now) c.args.place (trees.fronts (seen.prefixes_of c.in-Unary.prefixes.items) trees.None_before) (λ v. spec.judge (context_of c.args.around.now) v (seen.tree_of c.deref.result.now)) c.args.made.now
    ∙ on (answered (told_of c.args.around.now)) (waits.awaits (context_of c.args.around.now) c.args.place (trees.fronts (seen.prefixes_of c.in-Unary.prefixes.items) trees.None_before) [] c.args.made.now) (λ x now. follow (spec.judge (context_of c.args.around.now) x.0 (seen.tree_of c.deref.result.now) now) (λ j. waits.all_applied (context_of c.args.around.now) x.1 j)) ((c.prefixes_wait.new.place, c.in-Ok.done)) (c.prefixes_wait.new.made) c.in-Ok.ensures
    ∙ on (answered (told_of c.args.around.now)) (spec.judge (context_of c.args.around.now) c.prefixes_wait.new.place (seen.tree_of c.deref.result.now) c.prefixes_wait.new.made) (λ x now. waits.all_applied (context_of c.args.around.now) c.in-Ok.done x now) (c.in-Ok-judged.done) (c.judged.new.made) c.in-Ok-judged.ensures)
    c.apply_all.ensures

pub unary::applied-returns-in-Err-choices_wait : goal.unary::applied-returns-in-Err-choices_wait
unary::applied-returns-in-Err-choices_wait t c =
    stops_as (run_by (answered (told_of c.args.around.now)) (follow (waits.awaits (context_of c.args.around.now) c.args.place (trees.fronts (seen.choices_of c.in-Conditional.choices.items) trees.None_before) [] c.args.made.now) (λ x now. follow (spec.judge (context_of c.args.around.now) x.0 (seen.tree_of c.in-Conditional.last.value) now) (λ j. waits.all_applied (context_of c.args.around.now) x.1 j)))) (run_by (answered (told_of c.args.around.now)) (spec.judge (context_of c.args.around.now) c.args.place (seen.tree_of c.args.expr.now) c.args.made.now)) c.in-Err-choices_wait.halt
    (sym (ap (λ x. run_by (answered (told_of c.args.around.now)) (spec.judge (context_of c.args.around.now) c.args.place x c.args.made.now)) (layers.expr_conditional c.args.expr.now c.in-Conditional.choices c.in-Conditional.last c.in-Conditional.is)
    ∙ goes_back (answered (told_of c.args.around.now)) (context_of c.args.around.now) c.args.place (trees.fronts (seen.choices_of c.in-Conditional.choices.items) trees.None_before) (λ v. spec.judge (context_of c.args.around.now) v (seen.tree_of c.in-Conditional.last.value)) c.args.made.now))
    (off (answered (told_of c.args.around.now)) (waits.awaits (context_of c.args.around.now) c.args.place (trees.fronts (seen.choices_of c.in-Conditional.choices.items) trees.None_before) [] c.args.made.now) (λ x now. follow (spec.judge (context_of c.args.around.now) x.0 (seen.tree_of c.in-Conditional.last.value) now) (λ j. waits.all_applied (context_of c.args.around.now) x.1 j)) c.in-Err-choices_wait.halt c.in-Err-choices_wait.ensures)

pub unary::applied-returns-in-Err-judged-2 : goal.unary::applied-returns-in-Err-judged-2
unary::applied-returns-in-Err-judged-2 t c =
    stops_as (run_by (answered (told_of c.args.around.now)) (follow (spec.judge (context_of c.args.around.now) c.args.place (seen.tree_of c.deref-in-Conditional.result.now) c.choices_wait.new.made) (λ x now. waits.all_applied (context_of c.args.around.now) c.in-Ok-choices_wait.done x now))) (run_by (answered (told_of c.args.around.now)) (spec.judge (context_of c.args.around.now) c.args.place (seen.tree_of c.args.expr.now) c.args.made.now)) c.in-Err-judged-2.halt
    (sym (ap (λ x. run_by (answered (told_of c.args.around.now)) (spec.judge (context_of c.args.around.now) c.args.place x c.args.made.now)) (layers.expr_conditional c.args.expr.now c.in-Conditional.choices c.in-Conditional.last c.in-Conditional.is)
    ∙ ap (λ e. run_by (answered (told_of c.args.around.now)) (spec.judge (context_of c.args.around.now) c.args.place (trees.Conditional_of (trees.fronts (seen.choices_of c.in-Conditional.choices.items) trees.None_before) (seen.tree_of e)) c.args.made.now)) (sym c.deref-in-Conditional.ensures)
    ∙ goes_back (answered (told_of c.args.around.now)) (context_of c.args.around.now) c.args.place (trees.fronts (seen.choices_of c.in-Conditional.choices.items) trees.None_before) (λ v. spec.judge (context_of c.args.around.now) v (seen.tree_of c.deref-in-Conditional.result.now)) c.args.made.now
    ∙ on (answered (told_of c.args.around.now)) (waits.awaits (context_of c.args.around.now) c.args.place (trees.fronts (seen.choices_of c.in-Conditional.choices.items) trees.None_before) [] c.args.made.now) (λ x now. follow (spec.judge (context_of c.args.around.now) x.0 (seen.tree_of c.deref-in-Conditional.result.now) now) (λ j. waits.all_applied (context_of c.args.around.now) x.1 j)) ((c.args.place, c.in-Ok-choices_wait.done)) (c.choices_wait.new.made) c.in-Ok-choices_wait.ensures))
    (off (answered (told_of c.args.around.now)) (spec.judge (context_of c.args.around.now) c.args.place (seen.tree_of c.deref-in-Conditional.result.now) c.choices_wait.new.made) (λ x now. waits.all_applied (context_of c.args.around.now) c.in-Ok-choices_wait.done x now) c.in-Err-judged-2.halt c.in-Err-judged-2.ensures)

pub unary::applied-returns-in-Ok-judged-2 : goal.unary::applied-returns-in-Ok-judged-2
unary::applied-returns-in-Ok-judged-2 t c =
    comes_as (told_of c.args.around.now) (spec.judge (context_of c.args.around.now) c.args.place (seen.tree_of c.args.expr.now) c.args.made.now) (waits.all_applied (context_of c.args.around.now) c.in-Ok-choices_wait.done c.in-Ok-judged-2.done c.judged-in-Conditional.new.made) (λ j. j) c.apply_all-in-Conditional.result c.apply_all-in-Conditional.new.made
    (ap (λ x. run_by (answered (told_of c.args.around.now)) (spec.judge (context_of c.args.around.now) c.args.place x c.args.made.now)) (layers.expr_conditional c.args.expr.now c.in-Conditional.choices c.in-Conditional.last c.in-Conditional.is)
    ∙ ap (λ e. run_by (answered (told_of c.args.around.now)) (spec.judge (context_of c.args.around.now) c.args.place (trees.Conditional_of (trees.fronts (seen.choices_of c.in-Conditional.choices.items) trees.None_before) (seen.tree_of e)) c.args.made.now)) (sym c.deref-in-Conditional.ensures)
    ∙ goes_back (answered (told_of c.args.around.now)) (context_of c.args.around.now) c.args.place (trees.fronts (seen.choices_of c.in-Conditional.choices.items) trees.None_before) (λ v. spec.judge (context_of c.args.around.now) v (seen.tree_of c.deref-in-Conditional.result.now)) c.args.made.now
    ∙ on (answered (told_of c.args.around.now)) (waits.awaits (context_of c.args.around.now) c.args.place (trees.fronts (seen.choices_of c.in-Conditional.choices.items) trees.None_before) [] c.args.made.now) (λ x now. follow (spec.judge (context_of c.args.around.now) x.0 (seen.tree_of c.deref-in-Conditional.result.now) now) (λ j. waits.all_applied (context_of c.args.around.now) x.1 j)) ((c.args.place, c.in-Ok-choices_wait.done)) (c.choices_wait.new.made) c.in-Ok-choices_wait.ensures
    ∙ on (answered (told_of c.args.around.now)) (spec.judge (context_of c.args.around.now) c.args.place (seen.tree_of c.deref-in-Conditional.result.now) c.choices_wait.new.made) (λ x now. waits.all_applied (context_of c.args.around.now) c.in-Ok-choices_wait.done x now) (c.in-Ok-judged-2.done) (c.judged-in-Conditional.new.made) c.in-Ok-judged-2.ensures)
    c.apply_all-in-Conditional.ensures

pub unary::applied-returns-in-Err-places_wait : goal.unary::applied-returns-in-Err-places_wait
unary::applied-returns-in-Err-places_wait t c =
    stops_as (run_by (answered (told_of c.args.around.now)) (follow (waits.awaits (context_of c.args.around.now) c.args.place (trees.fronts (seen.lefts_of c.in-Assign.places.items) trees.None_before) [] c.args.made.now) (λ x now. follow (spec.judge (context_of c.args.around.now) x.0 (seen.tree_of c.in-Assign.value.value) now) (λ j. waits.all_applied (context_of c.args.around.now) x.1 j)))) (run_by (answered (told_of c.args.around.now)) (spec.judge (context_of c.args.around.now) c.args.place (seen.tree_of c.args.expr.now) c.args.made.now)) c.in-Err-places_wait.halt
    (sym (ap (λ x. run_by (answered (told_of c.args.around.now)) (spec.judge (context_of c.args.around.now) c.args.place x c.args.made.now)) (layers.expr_assign c.args.expr.now c.in-Assign.places c.in-Assign.value c.in-Assign.is)
    ∙ goes_back (answered (told_of c.args.around.now)) (context_of c.args.around.now) c.args.place (trees.fronts (seen.lefts_of c.in-Assign.places.items) trees.None_before) (λ v. spec.judge (context_of c.args.around.now) v (seen.tree_of c.in-Assign.value.value)) c.args.made.now))
    (off (answered (told_of c.args.around.now)) (waits.awaits (context_of c.args.around.now) c.args.place (trees.fronts (seen.lefts_of c.in-Assign.places.items) trees.None_before) [] c.args.made.now) (λ x now. follow (spec.judge (context_of c.args.around.now) x.0 (seen.tree_of c.in-Assign.value.value) now) (λ j. waits.all_applied (context_of c.args.around.now) x.1 j)) c.in-Err-places_wait.halt c.in-Err-places_wait.ensures)

pub unary::applied-returns-in-Err-judged-3 : goal.unary::applied-returns-in-Err-judged-3
unary::applied-returns-in-Err-judged-3 t c =
    stops_as (run_by (answered (told_of c.args.around.now)) (follow (spec.judge (context_of c.args.around.now) c.args.place (seen.tree_of c.deref-in-Assign.result.now) c.places_wait.new.made) (λ x now. waits.all_applied (context_of c.args.around.now) c.in-Ok-places_wait.done x now))) (run_by (answered (told_of c.args.around.now)) (spec.judge (context_of c.args.around.now) c.args.place (seen.tree_of c.args.expr.now) c.args.made.now)) c.in-Err-judged-3.halt
    (sym (ap (λ x. run_by (answered (told_of c.args.around.now)) (spec.judge (context_of c.args.around.now) c.args.place x c.args.made.now)) (layers.expr_assign c.args.expr.now c.in-Assign.places c.in-Assign.value c.in-Assign.is)
    ∙ ap (λ e. run_by (answered (told_of c.args.around.now)) (spec.judge (context_of c.args.around.now) c.args.place (trees.Assign_of (trees.fronts (seen.lefts_of c.in-Assign.places.items) trees.None_before) (seen.tree_of e)) c.args.made.now)) (sym c.deref-in-Assign.ensures)
    ∙ goes_back (answered (told_of c.args.around.now)) (context_of c.args.around.now) c.args.place (trees.fronts (seen.lefts_of c.in-Assign.places.items) trees.None_before) (λ v. spec.judge (context_of c.args.around.now) v (seen.tree_of c.deref-in-Assign.result.now)) c.args.made.now
    ∙ on (answered (told_of c.args.around.now)) (waits.awaits (context_of c.args.around.now) c.args.place (trees.fronts (seen.lefts_of c.in-Assign.places.items) trees.None_before) [] c.args.made.now) (λ x now. follow (spec.judge (context_of c.args.around.now) x.0 (seen.tree_of c.deref-in-Assign.result.now) now) (λ j. waits.all_applied (context_of c.args.around.now) x.1 j)) ((c.args.place, c.in-Ok-places_wait.done)) (c.places_wait.new.made) c.in-Ok-places_wait.ensures))
    (off (answered (told_of c.args.around.now)) (spec.judge (context_of c.args.around.now) c.args.place (seen.tree_of c.deref-in-Assign.result.now) c.places_wait.new.made) (λ x now. waits.all_applied (context_of c.args.around.now) c.in-Ok-places_wait.done x now) c.in-Err-judged-3.halt c.in-Err-judged-3.ensures)

pub unary::applied-returns-in-Ok-judged-3 : goal.unary::applied-returns-in-Ok-judged-3
unary::applied-returns-in-Ok-judged-3 t c =
    comes_as (told_of c.args.around.now) (spec.judge (context_of c.args.around.now) c.args.place (seen.tree_of c.args.expr.now) c.args.made.now) (waits.all_applied (context_of c.args.around.now) c.in-Ok-places_wait.done c.in-Ok-judged-3.done c.judged-in-Assign.new.made) (λ j. j) c.apply_all-in-Assign.result c.apply_all-in-Assign.new.made
    (ap (λ x. run_by (answered (told_of c.args.around.now)) (spec.judge (context_of c.args.around.now) c.args.place x c.args.made.now)) (layers.expr_assign c.args.expr.now c.in-Assign.places c.in-Assign.value c.in-Assign.is)
    ∙ ap (λ e. run_by (answered (told_of c.args.around.now)) (spec.judge (context_of c.args.around.now) c.args.place (trees.Assign_of (trees.fronts (seen.lefts_of c.in-Assign.places.items) trees.None_before) (seen.tree_of e)) c.args.made.now)) (sym c.deref-in-Assign.ensures)
    ∙ goes_back (answered (told_of c.args.around.now)) (context_of c.args.around.now) c.args.place (trees.fronts (seen.lefts_of c.in-Assign.places.items) trees.None_before) (λ v. spec.judge (context_of c.args.around.now) v (seen.tree_of c.deref-in-Assign.result.now)) c.args.made.now
    ∙ on (answered (told_of c.args.around.now)) (waits.awaits (context_of c.args.around.now) c.args.place (trees.fronts (seen.lefts_of c.in-Assign.places.items) trees.None_before) [] c.args.made.now) (λ x now. follow (spec.judge (context_of c.args.around.now) x.0 (seen.tree_of c.deref-in-Assign.result.now) now) (λ j. waits.all_applied (context_of c.args.around.now) x.1 j)) ((c.args.place, c.in-Ok-places_wait.done)) (c.places_wait.new.made) c.in-Ok-places_wait.ensures
    ∙ on (answered (told_of c.args.around.now)) (spec.judge (context_of c.args.around.now) c.args.place (seen.tree_of c.deref-in-Assign.result.now) c.places_wait.new.made) (λ x now. waits.all_applied (context_of c.args.around.now) c.in-Ok-places_wait.done x now) (c.in-Ok-judged-3.done) (c.judged-in-Assign.new.made) c.in-Ok-judged-3.ensures)
    c.apply_all-in-Assign.ensures

pub braces::piece-returns-in-Err : goal.braces::piece-returns-in-Err
braces::piece-returns-in-Err t c =
    stops_as (run_by (answered (told_of c.args.around.now)) (follow (spec.designator_in (context_of c.args.around.now) c.args.place (seen.designator_of c.in-Designated.first) c.args.filling.now c.args.made.now) (λ x now. follow (spec.designators_in (context_of c.args.around.now) c.args.place (trees.designators (seen.designators_of c.in-Designated.more.items)) x now) (λ h. spec.initial (context_of c.args.around.now) c.args.place (seen.initial_of c.in-Designated.init) h)))) (run_by (answered (told_of c.args.around.now)) (spec.piece_in (context_of c.args.around.now) c.args.place (seen.piece_of c.args.piece.now) c.args.filling.now c.args.made.now)) c.in-Err.halt
    (sym (ap (λ x. run_by (answered (told_of c.args.around.now)) (spec.piece_in (context_of c.args.around.now) c.args.place x c.args.filling.now c.args.made.now)) (layers.piece_designated c.args.piece.now c.in-Designated.first c.in-Designated.more c.in-Designated.field-2 c.in-Designated.init c.in-Designated.is)))
    (off (answered (told_of c.args.around.now)) (spec.designator_in (context_of c.args.around.now) c.args.place (seen.designator_of c.in-Designated.first) c.args.filling.now c.args.made.now) (λ x now. follow (spec.designators_in (context_of c.args.around.now) c.args.place (trees.designators (seen.designators_of c.in-Designated.more.items)) x now) (λ h. spec.initial (context_of c.args.around.now) c.args.place (seen.initial_of c.in-Designated.init) h)) c.in-Err.halt c.in-Err.ensures)

pub braces::piece-returns-in-Err-designators : goal.braces::piece-returns-in-Err-designators
braces::piece-returns-in-Err-designators t c =
    stops_as (run_by (answered (told_of c.args.around.now)) (follow (spec.designators_in (context_of c.args.around.now) c.args.place (trees.designators (seen.designators_of c.in-Designated.more.items)) c.designator.new.filling c.designator.new.made) (λ x now. spec.initial (context_of c.args.around.now) c.args.place (seen.initial_of c.in-Designated.init) x now))) (run_by (answered (told_of c.args.around.now)) (spec.piece_in (context_of c.args.around.now) c.args.place (seen.piece_of c.args.piece.now) c.args.filling.now c.args.made.now)) c.in-Err-designators.halt
    (sym (ap (λ x. run_by (answered (told_of c.args.around.now)) (spec.piece_in (context_of c.args.around.now) c.args.place x c.args.filling.now c.args.made.now)) (layers.piece_designated c.args.piece.now c.in-Designated.first c.in-Designated.more c.in-Designated.field-2 c.in-Designated.init c.in-Designated.is)
    ∙ on (answered (told_of c.args.around.now)) (spec.designator_in (context_of c.args.around.now) c.args.place (seen.designator_of c.in-Designated.first) c.args.filling.now c.args.made.now) (λ x now. follow (spec.designators_in (context_of c.args.around.now) c.args.place (trees.designators (seen.designators_of c.in-Designated.more.items)) x now) (λ h. spec.initial (context_of c.args.around.now) c.args.place (seen.initial_of c.in-Designated.init) h)) (c.designator.new.filling) (c.designator.new.made) c.in-Ok.ensures))
    (off (answered (told_of c.args.around.now)) (spec.designators_in (context_of c.args.around.now) c.args.place (trees.designators (seen.designators_of c.in-Designated.more.items)) c.designator.new.filling c.designator.new.made) (λ x now. spec.initial (context_of c.args.around.now) c.args.place (seen.initial_of c.in-Designated.init) x now) c.in-Err-designators.halt c.in-Err-designators.ensures)

pub braces::piece-returns-in-Ok-designators : goal.braces::piece-returns-in-Ok-designators
braces::piece-returns-in-Ok-designators t c =
    comes_as (told_of c.args.around.now) (spec.piece_in (context_of c.args.around.now) c.args.place (seen.piece_of c.args.piece.now) c.args.filling.now c.args.made.now) (spec.initial (context_of c.args.around.now) c.args.place (seen.initial_of c.in-Designated.init) c.designators.new.filling c.designators.new.made) (λ u. c.initial-in-Designated.new.filling) c.initial-in-Designated.result c.initial-in-Designated.new.made
    (ap (λ x. run_by (answered (told_of c.args.around.now)) (spec.piece_in (context_of c.args.around.now) c.args.place x c.args.filling.now c.args.made.now)) (layers.piece_designated c.args.piece.now c.in-Designated.first c.in-Designated.more c.in-Designated.field-2 c.in-Designated.init c.in-Designated.is)
    ∙ on (answered (told_of c.args.around.now)) (spec.designator_in (context_of c.args.around.now) c.args.place (seen.designator_of c.in-Designated.first) c.args.filling.now c.args.made.now) (λ x now. follow (spec.designators_in (context_of c.args.around.now) c.args.place (trees.designators (seen.designators_of c.in-Designated.more.items)) x now) (λ h. spec.initial (context_of c.args.around.now) c.args.place (seen.initial_of c.in-Designated.init) h)) (c.designator.new.filling) (c.designator.new.made) c.in-Ok.ensures
    ∙ on (answered (told_of c.args.around.now)) (spec.designators_in (context_of c.args.around.now) c.args.place (trees.designators (seen.designators_of c.in-Designated.more.items)) c.designator.new.filling c.designator.new.made) (λ x now. spec.initial (context_of c.args.around.now) c.args.place (seen.initial_of c.in-Designated.init) x now) (c.designators.new.filling) (c.designators.new.made) c.in-Ok-designators.ensures)
    c.initial-in-Designated.ensures

pub braces::completed-returns-in-Err : goal.braces::completed-returns-in-Err
braces::completed-returns-in-Err t c =
    stops_as (run_by (answered (told_of c.args.around.now)) (follow (spec.type_name (context_of c.args.around.now) c.args.place (seen.type_of c.deref.result.now) c.args.made.now) (λ x now. follow (literals.begun (context_of c.args.around.now) x now) (λ f next. follow (spec.braces (context_of c.args.around.now) c.args.place (seen.braces_of c.in-Compound.list.value) f next) (λ g. literals.literal (context_of c.args.around.now) c.in-Compound.at x g))))) (run_by (answered (told_of c.args.around.now)) (spec.judge (context_of c.args.around.now) c.args.place (seen.tree_of c.args.expr.now) c.args.made.now)) c.in-Err.halt
    (sym (ap (λ x. run_by (answered (told_of c.args.around.now)) (spec.judge (context_of c.args.around.now) c.args.place x c.args.made.now)) (layers.expr_compound c.args.expr.now c.in-Compound.at c.in-Compound.name c.in-Compound.field-2 c.in-Compound.list c.in-Compound.is)
    ∙ ap (λ e. run_by (answered (told_of c.args.around.now)) (spec.judge (context_of c.args.around.now) c.args.place (trees.Compound_of c.in-Compound.at (seen.type_of e) c.in-Compound.field-2 (seen.braces_of c.in-Compound.list.value)) c.args.made.now)) (sym c.deref.ensures)))
    (off (answered (told_of c.args.around.now)) (spec.type_name (context_of c.args.around.now) c.args.place (seen.type_of c.deref.result.now) c.args.made.now) (λ x now. follow (literals.begun (context_of c.args.around.now) x now) (λ f next. follow (spec.braces (context_of c.args.around.now) c.args.place (seen.braces_of c.in-Compound.list.value) f next) (λ g. literals.literal (context_of c.args.around.now) c.in-Compound.at x g))) c.in-Err.halt c.in-Err.ensures)

pub braces::completed-returns-in-Err-begun : goal.braces::completed-returns-in-Err-begun
braces::completed-returns-in-Err-begun t c =
    stops_as (run_by (answered (told_of c.args.around.now)) (follow (literals.begun (context_of c.args.around.now) c.in-Ok.done c.type_name.new.made) (λ x now. follow (spec.braces (context_of c.args.around.now) c.args.place (seen.braces_of c.in-Compound.list.value) x now) (λ g. literals.literal (context_of c.args.around.now) c.in-Compound.at c.in-Ok.done g)))) (run_by (answered (told_of c.args.around.now)) (spec.judge (context_of c.args.around.now) c.args.place (seen.tree_of c.args.expr.now) c.args.made.now)) c.in-Err-begun.halt
    (sym (ap (λ x. run_by (answered (told_of c.args.around.now)) (spec.judge (context_of c.args.around.now) c.args.place x c.args.made.now)) (layers.expr_compound c.args.expr.now c.in-Compound.at c.in-Compound.name c.in-Compound.field-2 c.in-Compound.list c.in-Compound.is)
    ∙ ap (λ e. run_by (answered (told_of c.args.around.now)) (spec.judge (context_of c.args.around.now) c.args.place (trees.Compound_of c.in-Compound.at (seen.type_of e) c.in-Compound.field-2 (seen.braces_of c.in-Compound.list.value)) c.args.made.now)) (sym c.deref.ensures)
    ∙ on (answered (told_of c.args.around.now)) (spec.type_name (context_of c.args.around.now) c.args.place (seen.type_of c.deref.result.now) c.args.made.now) (λ x now. follow (literals.begun (context_of c.args.around.now) x now) (λ f next. follow (spec.braces (context_of c.args.around.now) c.args.place (seen.braces_of c.in-Compound.list.value) f next) (λ g. literals.literal (context_of c.args.around.now) c.in-Compound.at x g))) (c.in-Ok.done) (c.type_name.new.made) c.in-Ok.ensures))
    (off (answered (told_of c.args.around.now)) (literals.begun (context_of c.args.around.now) c.in-Ok.done c.type_name.new.made) (λ x now. follow (spec.braces (context_of c.args.around.now) c.args.place (seen.braces_of c.in-Compound.list.value) x now) (λ g. literals.literal (context_of c.args.around.now) c.in-Compound.at c.in-Ok.done g)) c.in-Err-begun.halt c.in-Err-begun.ensures)

pub braces::completed-returns-in-Err-braces : goal.braces::completed-returns-in-Err-braces
braces::completed-returns-in-Err-braces t c =
    stops_as (run_by (answered (told_of c.args.around.now)) (follow (spec.braces (context_of c.args.around.now) c.args.place (seen.braces_of c.deref-in-Compound.result.now) c.in-Ok-begun.done c.begun.new.made) (λ x now. literals.literal (context_of c.args.around.now) c.in-Compound.at c.in-Ok.done x now))) (run_by (answered (told_of c.args.around.now)) (spec.judge (context_of c.args.around.now) c.args.place (seen.tree_of c.args.expr.now) c.args.made.now)) c.in-Err-braces.halt
    (sym (ap (λ x. run_by (answered (told_of c.args.around.now)) (spec.judge (context_of c.args.around.now) c.args.place x c.args.made.now)) (layers.expr_compound c.args.expr.now c.in-Compound.at c.in-Compound.name c.in-Compound.field-2 c.in-Compound.list c.in-Compound.is)
    ∙ ap (λ e. run_by (answered (told_of c.args.around.now)) (spec.judge (context_of c.args.around.now) c.args.place (trees.Compound_of c.in-Compound.at (seen.type_of e) c.in-Compound.field-2 (seen.braces_of c.in-Compound.list.value)) c.args.made.now)) (sym c.deref.ensures)
    ∙ ap (λ e. run_by (answered (told_of c.args.around.now)) (spec.judge (context_of c.args.around.now) c.args.place (trees.Compound_of c.in-Compound.at (seen.type_of c.deref.result.now) c.in-Compound.field-2 (seen.braces_of e)) c.args.made.now)) (sym c.deref-in-Compound.ensures)
    ∙ on (answered (told_of c.args.around.now)) (spec.type_name (context_of c.args.around.now) c.args.place (seen.type_of c.deref.result.now) c.args.made.now) (λ x now. follow (literals.begun (context_of c.args.around.now) x now) (λ f next. follow (spec.braces (context_of c.args.around.now) c.args.place (seen.braces_of c.deref-in-Compound.result.now) f next) (λ g. literals.literal (context_of c.args.around.now) c.in-Compound.at x g))) (c.in-Ok.done) (c.type_name.new.made) c.in-Ok.ensures
    ∙ on (answered (told_of c.args.around.now)) (literals.begun (context_of c.args.around.now) c.in-Ok.done c.type_name.new.made) (λ x now. follow (spec.braces (context_of c.args.around.now) c.args.place (seen.braces_of c.deref-in-Compound.result.now) x now) (λ g. literals.literal (context_of c.args.around.now) c.in-Compound.at c.in-Ok.done g)) (c.in-Ok-begun.done) (c.begun.new.made) c.in-Ok-begun.ensures))
    (off (answered (told_of c.args.around.now)) (spec.braces (context_of c.args.around.now) c.args.place (seen.braces_of c.deref-in-Compound.result.now) c.in-Ok-begun.done c.begun.new.made) (λ x now. literals.literal (context_of c.args.around.now) c.in-Compound.at c.in-Ok.done x now) c.in-Err-braces.halt c.in-Err-braces.ensures)

pub braces::completed-returns-in-Ok-braces : goal.braces::completed-returns-in-Ok-braces
braces::completed-returns-in-Ok-braces t c =
    comes_as (told_of c.args.around.now) (spec.judge (context_of c.args.around.now) c.args.place (seen.tree_of c.args.expr.now) c.args.made.now) (literals.literal (context_of c.args.around.now) c.in-Compound.at c.in-Ok.done c.braces.new.filling c.braces.new.made) (λ j. j) c.literal-done.result c.literal-done.new.made
    (ap (λ x. run_by (answered (told_of c.args.around.now)) (spec.judge (context_of c.args.around.now) c.args.place x c.args.made.now)) (layers.expr_compound c.args.expr.now c.in-Compound.at c.in-Compound.name c.in-Compound.field-2 c.in-Compound.list c.in-Compound.is)
    ∙ ap (λ e. run_by (answered (told_of c.args.around.now)) (spec.judge (context_of c.args.around.now) c.args.place (trees.Compound_of c.in-Compound.at (seen.type_of e) c.in-Compound.field-2 (seen.braces_of c.in-Compound.list.value)) c.args.made.now)) (sym c.deref.ensures)
    ∙ ap (λ e. run_by (answered (told_of c.args.around.now)) (spec.judge (context_of c.args.around.now) c.args.place (trees.Compound_of c.in-Compound.at (seen.type_of c.deref.result.now) c.in-Compound.field-2 (seen.braces_of e)) c.args.made.now)) (sym c.deref-in-Compound.ensures)
    ∙ on (answered (told_of c.args.around.now)) (spec.type_name (context_of c.args.around.now) c.args.place (seen.type_of c.deref.result.now) c.args.made.now) (λ x now. follow (literals.begun (context_of c.args.around.now) x now) (λ f next. follow (spec.braces (context_of c.args.around.now) c.args.place (seen.braces_of c.deref-in-Compound.result.now) f next) (λ g. literals.literal (context_of c.args.around.now) c.in-Compound.at x g))) (c.in-Ok.done) (c.type_name.new.made) c.in-Ok.ensures
    ∙ on (answered (told_of c.args.around.now)) (literals.begun (context_of c.args.around.now) c.in-Ok.done c.type_name.new.made) (λ x now. follow (spec.braces (context_of c.args.around.now) c.args.place (seen.braces_of c.deref-in-Compound.result.now) x now) (λ g. literals.literal (context_of c.args.around.now) c.in-Compound.at c.in-Ok.done g)) (c.in-Ok-begun.done) (c.begun.new.made) c.in-Ok-begun.ensures
    ∙ on (answered (told_of c.args.around.now)) (spec.braces (context_of c.args.around.now) c.args.place (seen.braces_of c.deref-in-Compound.result.now) c.in-Ok-begun.done c.begun.new.made) (λ x now. literals.literal (context_of c.args.around.now) c.in-Compound.at c.in-Ok.done x now) (c.braces.new.filling) (c.braces.new.made) c.in-Ok-braces.ensures)
    c.literal-done.ensures

pub braces::completed-returns-in-Err-judged : goal.braces::completed-returns-in-Err-judged
braces::completed-returns-in-Err-judged t c =
    stops_as (run_by (answered (told_of c.args.around.now)) (follow (spec.judge (context_of c.args.around.now) c.args.place (seen.tree_of c.deref-in-Generic.result.now) c.args.made.now) (λ x now. follow (spec.associations (context_of c.args.around.now) c.args.place (trees.associations (seen.associations_of c.in-Generic.list.value.items)) (choosing.controlled x) now) (λ cs. choosing.selection (context_of c.args.around.now) c.in-Generic.at cs)))) (run_by (answered (told_of c.args.around.now)) (spec.judge (context_of c.args.around.now) c.args.place (seen.tree_of c.args.expr.now) c.args.made.now)) c.in-Err-judged.halt
    (sym (ap (λ x. run_by (answered (told_of c.args.around.now)) (spec.judge (context_of c.args.around.now) c.args.place x c.args.made.now)) (layers.expr_generic c.args.expr.now c.in-Generic.at c.in-Generic.field-1 c.in-Generic.control c.in-Generic.list c.in-Generic.field-4 c.in-Generic.is)
    ∙ ap (λ e. run_by (answered (told_of c.args.around.now)) (spec.judge (context_of c.args.around.now) c.args.place (trees.Generic_of c.in-Generic.at c.in-Generic.field-1 (seen.tree_of e) (trees.associations (seen.associations_of c.in-Generic.list.value.items)) c.in-Generic.field-4) c.args.made.now)) (sym c.deref-in-Generic.ensures)))
    (off (answered (told_of c.args.around.now)) (spec.judge (context_of c.args.around.now) c.args.place (seen.tree_of c.deref-in-Generic.result.now) c.args.made.now) (λ x now. follow (spec.associations (context_of c.args.around.now) c.args.place (trees.associations (seen.associations_of c.in-Generic.list.value.items)) (choosing.controlled x) now) (λ cs. choosing.selection (context_of c.args.around.now) c.in-Generic.at cs)) c.in-Err-judged.halt c.in-Err-judged.ensures)

pub braces::completed-returns-in-Err-associations : goal.braces::completed-returns-in-Err-associations
braces::completed-returns-in-Err-associations t c =
    let is1 : c.in-Ok-chosen_by.choices ≡ choosing.controlled c.in-Ok-judged.done = search rules in
    stops_as (run_by (answered (told_of c.args.around.now)) (follow (spec.associations (context_of c.args.around.now) c.args.place (trees.associations (seen.associations_of c.deref-in-Generic-2.result.now.items)) c.in-Ok-chosen_by.choices c.judged.new.made) (λ x now. choosing.selection (context_of c.args.around.now) c.in-Generic.at x now))) (run_by (answered (told_of c.args.around.now)) (spec.judge (context_of c.args.around.now) c.args.place (seen.tree_of c.args.expr.now) c.args.made.now)) c.in-Err-associations.halt
    (sym (ap (λ x. run_by (answered (told_of c.args.around.now)) (spec.judge (context_of c.args.around.now) c.args.place x c.args.made.now)) (layers.expr_generic c.args.expr.now c.in-Generic.at c.in-Generic.field-1 c.in-Generic.control c.in-Generic.list c.in-Generic.field-4 c.in-Generic.is)
    ∙ ap (λ e. run_by (answered (told_of c.args.around.now)) (spec.judge (context_of c.args.around.now) c.args.place (trees.Generic_of c.in-Generic.at c.in-Generic.field-1 (seen.tree_of e) (trees.associations (seen.associations_of c.in-Generic.list.value.items)) c.in-Generic.field-4) c.args.made.now)) (sym c.deref-in-Generic.ensures)
    ∙ ap (λ xs. run_by (answered (told_of c.args.around.now)) (spec.judge (context_of c.args.around.now) c.args.place (trees.Generic_of c.in-Generic.at c.in-Generic.field-1 (seen.tree_of c.deref-in-Generic.result.now) (trees.associations (seen.associations_of xs.items)) c.in-Generic.field-4) c.args.made.now)) (sym c.deref-in-Generic-2.ensures)
    ∙ on (answered (told_of c.args.around.now)) (spec.judge (context_of c.args.around.now) c.args.place (seen.tree_of c.deref-in-Generic.result.now) c.args.made.now) (λ x now. follow (spec.associations (context_of c.args.around.now) c.args.place (trees.associations (seen.associations_of c.deref-in-Generic-2.result.now.items)) (choosing.controlled x) now) (λ cs. choosing.selection (context_of c.args.around.now) c.in-Generic.at cs)) (c.in-Ok-judged.done) (c.judged.new.made) c.in-Ok-judged.ensures
    ∙ ap (λ v. run_by (answered (told_of c.args.around.now)) (follow (spec.associations (context_of c.args.around.now) c.args.place (trees.associations (seen.associations_of c.deref-in-Generic-2.result.now.items)) v c.judged.new.made) (λ cs. choosing.selection (context_of c.args.around.now) c.in-Generic.at cs))) (sym is1)))
    (off (answered (told_of c.args.around.now)) (spec.associations (context_of c.args.around.now) c.args.place (trees.associations (seen.associations_of c.deref-in-Generic-2.result.now.items)) c.in-Ok-chosen_by.choices c.judged.new.made) (λ x now. choosing.selection (context_of c.args.around.now) c.in-Generic.at x now) c.in-Err-associations.halt c.in-Err-associations.ensures)

pub braces::completed-returns-in-Ok-associations : goal.braces::completed-returns-in-Ok-associations
braces::completed-returns-in-Ok-associations t c =
    let is1 : c.in-Ok-chosen_by.choices ≡ choosing.controlled c.in-Ok-judged.done = search rules in
    comes_as (told_of c.args.around.now) (spec.judge (context_of c.args.around.now) c.args.place (seen.tree_of c.args.expr.now) c.args.made.now) (choosing.selection (context_of c.args.around.now) c.in-Generic.at c.associations.new.choices c.associations.new.made) (λ j. j) c.select.result c.select.new.made
    (ap (λ x. run_by (answered (told_of c.args.around.now)) (spec.judge (context_of c.args.around.now) c.args.place x c.args.made.now)) (layers.expr_generic c.args.expr.now c.in-Generic.at c.in-Generic.field-1 c.in-Generic.control c.in-Generic.list c.in-Generic.field-4 c.in-Generic.is)
    ∙ ap (λ e. run_by (answered (told_of c.args.around.now)) (spec.judge (context_of c.args.around.now) c.args.place (trees.Generic_of c.in-Generic.at c.in-Generic.field-1 (seen.tree_of e) (trees.associations (seen.associations_of c.in-Generic.list.value.items)) c.in-Generic.field-4) c.args.made.now)) (sym c.deref-in-Generic.ensures)
    ∙ ap (λ xs. run_by (answered (told_of c.args.around.now)) (spec.judge (context_of c.args.around.now) c.args.place (trees.Generic_of c.in-Generic.at c.in-Generic.field-1 (seen.tree_of c.deref-in-Generic.result.now) (trees.associations (seen.associations_of xs.items)) c.in-Generic.field-4) c.args.made.now)) (sym c.deref-in-Generic-2.ensures)
    ∙ on (answered (told_of c.args.around.now)) (spec.judge (context_of c.args.around.now) c.args.place (seen.tree_of c.deref-in-Generic.result.now) c.args.made.now) (λ x now. follow (spec.associations (context_of c.args.around.now) c.args.place (trees.associations (seen.associations_of c.deref-in-Generic-2.result.now.items)) (choosing.controlled x) now) (λ cs. choosing.selection (context_of c.args.around.now) c.in-Generic.at cs)) (c.in-Ok-judged.done) (c.judged.new.made) c.in-Ok-judged.ensures
    ∙ ap (λ v. run_by (answered (told_of c.args.around.now)) (follow (spec.associations (context_of c.args.around.now) c.args.place (trees.associations (seen.associations_of c.deref-in-Generic-2.result.now.items)) v c.judged.new.made) (λ cs. choosing.selection (context_of c.args.around.now) c.in-Generic.at cs))) (sym is1)
    ∙ on (answered (told_of c.args.around.now)) (spec.associations (context_of c.args.around.now) c.args.place (trees.associations (seen.associations_of c.deref-in-Generic-2.result.now.items)) c.in-Ok-chosen_by.choices c.judged.new.made) (λ x now. choosing.selection (context_of c.args.around.now) c.in-Generic.at x now) (c.associations.new.choices) (c.associations.new.made) c.in-Ok-associations.ensures)
    c.select.ensures

pub braces::completed-returns-in-Err-type_name : goal.braces::completed-returns-in-Err-type_name
braces::completed-returns-in-Err-type_name t c =
    stops_as (run_by (answered (told_of c.args.around.now)) (follow (spec.type_name (context_of c.args.around.now) c.args.place (seen.type_of c.deref-in-Offset.result.now) c.args.made.now) (λ x now. follow (ways.way_from (context_of c.args.around.now) x c.in-Offset.member now) (λ s next. follow (spec.steps_to (context_of c.args.around.now) c.args.place (trees.behinds (seen.suffixes_of c.in-Offset.list.value.items) trees.None_behind) s next) (λ r. casts.offset (context_of c.args.around.now) c.in-Offset.at x r.steps))))) (run_by (answered (told_of c.args.around.now)) (spec.judge (context_of c.args.around.now) c.args.place (seen.tree_of c.args.expr.now) c.args.made.now)) c.in-Err-type_name.halt
    (sym (ap (λ x. run_by (answered (told_of c.args.around.now)) (spec.judge (context_of c.args.around.now) c.args.place x c.args.made.now)) (layers.expr_offset c.args.expr.now c.in-Offset.at c.in-Offset.field-1 c.in-Offset.name c.in-Offset.field-3 c.in-Offset.member c.in-Offset.list c.in-Offset.field-6 c.in-Offset.is)
    ∙ ap (λ e. run_by (answered (told_of c.args.around.now)) (spec.judge (context_of c.args.around.now) c.args.place (trees.Offset_of c.in-Offset.at c.in-Offset.field-1 (seen.type_of e) c.in-Offset.field-3 c.in-Offset.member (trees.behinds (seen.suffixes_of c.in-Offset.list.value.items) trees.None_behind) c.in-Offset.field-6) c.args.made.now)) (sym c.deref-in-Offset.ensures)))
    (off (answered (told_of c.args.around.now)) (spec.type_name (context_of c.args.around.now) c.args.place (seen.type_of c.deref-in-Offset.result.now) c.args.made.now) (λ x now. follow (ways.way_from (context_of c.args.around.now) x c.in-Offset.member now) (λ s next. follow (spec.steps_to (context_of c.args.around.now) c.args.place (trees.behinds (seen.suffixes_of c.in-Offset.list.value.items) trees.None_behind) s next) (λ r. casts.offset (context_of c.args.around.now) c.in-Offset.at x r.steps))) c.in-Err-type_name.halt c.in-Err-type_name.ensures)

pub braces::completed-returns-in-Err-way_from : goal.braces::completed-returns-in-Err-way_from
braces::completed-returns-in-Err-way_from t c =
    stops_as (run_by (answered (told_of c.args.around.now)) (follow (ways.way_from (context_of c.args.around.now) c.in-Ok-type_name.done c.in-Offset.member c.type_name-in-Offset.new.made) (λ x now. follow (spec.steps_to (context_of c.args.around.now) c.args.place (trees.behinds (seen.suffixes_of c.in-Offset.list.value.items) trees.None_behind) x now) (λ r. casts.offset (context_of c.args.around.now) c.in-Offset.at c.in-Ok-type_name.done r.steps)))) (run_by (answered (told_of c.args.around.now)) (spec.judge (context_of c.args.around.now) c.args.place (seen.tree_of c.args.expr.now) c.args.made.now)) c.in-Err-way_from.halt
    (sym (ap (λ x. run_by (answered (told_of c.args.around.now)) (spec.judge (context_of c.args.around.now) c.args.place x c.args.made.now)) (layers.expr_offset c.args.expr.now c.in-Offset.at c.in-Offset.field-1 c.in-Offset.name c.in-Offset.field-3 c.in-Offset.member c.in-Offset.list c.in-Offset.field-6 c.in-Offset.is)
    ∙ ap (λ e. run_by (answered (told_of c.args.around.now)) (spec.judge (context_of c.args.around.now) c.args.place (trees.Offset_of c.in-Offset.at c.in-Offset.field-1 (seen.type_of e) c.in-Offset.field-3 c.in-Offset.member (trees.behinds (seen.suffixes_of c.in-Offset.list.value.items) trees.None_behind) c.in-Offset.field-6) c.args.made.now)) (sym c.deref-in-Offset.ensures)
    ∙ on (answered (told_of c.args.around.now)) (spec.type_name (context_of c.args.around.now) c.args.place (seen.type_of c.deref-in-Offset.result.now) c.args.made.now) (λ x now. follow (ways.way_from (context_of c.args.around.now) x c.in-Offset.member now) (λ s next. follow (spec.steps_to (context_of c.args.around.now) c.args.place (trees.behinds (seen.suffixes_of c.in-Offset.list.value.items) trees.None_behind) s next) (λ r. casts.offset (context_of c.args.around.now) c.in-Offset.at x r.steps))) (c.in-Ok-type_name.done) (c.type_name-in-Offset.new.made) c.in-Ok-type_name.ensures))
    (off (answered (told_of c.args.around.now)) (ways.way_from (context_of c.args.around.now) c.in-Ok-type_name.done c.in-Offset.member c.type_name-in-Offset.new.made) (λ x now. follow (spec.steps_to (context_of c.args.around.now) c.args.place (trees.behinds (seen.suffixes_of c.in-Offset.list.value.items) trees.None_behind) x now) (λ r. casts.offset (context_of c.args.around.now) c.in-Offset.at c.in-Ok-type_name.done r.steps)) c.in-Err-way_from.halt c.in-Err-way_from.ensures)

pub braces::completed-returns-in-Err-steps_to : goal.braces::completed-returns-in-Err-steps_to
braces::completed-returns-in-Err-steps_to t c =
    stops_as (run_by (answered (told_of c.args.around.now)) (follow (spec.steps_to (context_of c.args.around.now) c.args.place (trees.behinds (seen.suffixes_of c.deref-in-Offset-2.result.now.items) trees.None_behind) c.in-Ok-way_from.done c.way_from.new.made) (λ x now. casts.offset (context_of c.args.around.now) c.in-Offset.at c.in-Ok-type_name.done x.steps now))) (run_by (answered (told_of c.args.around.now)) (spec.judge (context_of c.args.around.now) c.args.place (seen.tree_of c.args.expr.now) c.args.made.now)) c.in-Err-steps_to.halt
    (sym (ap (λ x. run_by (answered (told_of c.args.around.now)) (spec.judge (context_of c.args.around.now) c.args.place x c.args.made.now)) (layers.expr_offset c.args.expr.now c.in-Offset.at c.in-Offset.field-1 c.in-Offset.name c.in-Offset.field-3 c.in-Offset.member c.in-Offset.list c.in-Offset.field-6 c.in-Offset.is)
    ∙ ap (λ e. run_by (answered (told_of c.args.around.now)) (spec.judge (context_of c.args.around.now) c.args.place (trees.Offset_of c.in-Offset.at c.in-Offset.field-1 (seen.type_of e) c.in-Offset.field-3 c.in-Offset.member (trees.behinds (seen.suffixes_of c.in-Offset.list.value.items) trees.None_behind) c.in-Offset.field-6) c.args.made.now)) (sym c.deref-in-Offset.ensures)
    ∙ ap (λ xs. run_by (answered (told_of c.args.around.now)) (spec.judge (context_of c.args.around.now) c.args.place (trees.Offset_of c.in-Offset.at c.in-Offset.field-1 (seen.type_of c.deref-in-Offset.result.now) c.in-Offset.field-3 c.in-Offset.member (trees.behinds (seen.suffixes_of xs.items) trees.None_behind) c.in-Offset.field-6) c.args.made.now)) (sym c.deref-in-Offset-2.ensures)
    ∙ on (answered (told_of c.args.around.now)) (spec.type_name (context_of c.args.around.now) c.args.place (seen.type_of c.deref-in-Offset.result.now) c.args.made.now) (λ x now. follow (ways.way_from (context_of c.args.around.now) x c.in-Offset.member now) (λ s next. follow (spec.steps_to (context_of c.args.around.now) c.args.place (trees.behinds (seen.suffixes_of c.deref-in-Offset-2.result.now.items) trees.None_behind) s next) (λ r. casts.offset (context_of c.args.around.now) c.in-Offset.at x r.steps))) (c.in-Ok-type_name.done) (c.type_name-in-Offset.new.made) c.in-Ok-type_name.ensures
    ∙ on (answered (told_of c.args.around.now)) (ways.way_from (context_of c.args.around.now) c.in-Ok-type_name.done c.in-Offset.member c.type_name-in-Offset.new.made) (λ x now. follow (spec.steps_to (context_of c.args.around.now) c.args.place (trees.behinds (seen.suffixes_of c.deref-in-Offset-2.result.now.items) trees.None_behind) x now) (λ r. casts.offset (context_of c.args.around.now) c.in-Offset.at c.in-Ok-type_name.done r.steps)) (c.in-Ok-way_from.done) (c.way_from.new.made) c.in-Ok-way_from.ensures))
    (off (answered (told_of c.args.around.now)) (spec.steps_to (context_of c.args.around.now) c.args.place (trees.behinds (seen.suffixes_of c.deref-in-Offset-2.result.now.items) trees.None_behind) c.in-Ok-way_from.done c.way_from.new.made) (λ x now. casts.offset (context_of c.args.around.now) c.in-Offset.at c.in-Ok-type_name.done x.steps now) c.in-Err-steps_to.halt c.in-Err-steps_to.ensures)

pub braces::completed-returns-in-Ok-steps_to : goal.braces::completed-returns-in-Ok-steps_to
braces::completed-returns-in-Ok-steps_to t c =
    comes_as (told_of c.args.around.now) (spec.judge (context_of c.args.around.now) c.args.place (seen.tree_of c.args.expr.now) c.args.made.now) (casts.offset (context_of c.args.around.now) c.in-Offset.at c.in-Ok-type_name.done c.steps_to.new.way.steps c.steps_to.new.made) (λ j. j) c.place_of_member.result c.place_of_member.new.made
    (ap (λ x. run_by (answered (told_of c.args.around.now)) (spec.judge (context_of c.args.around.now) c.args.place x c.args.made.now)) (layers.expr_offset c.args.expr.now c.in-Offset.at c.in-Offset.field-1 c.in-Offset.name c.in-Offset.field-3 c.in-Offset.member c.in-Offset.list c.in-Offset.field-6 c.in-Offset.is)
    ∙ ap (λ e. run_by (answered (told_of c.args.around.now)) (spec.judge (context_of c.args.around.now) c.args.place (trees.Offset_of c.in-Offset.at c.in-Offset.field-1 (seen.type_of e) c.in-Offset.field-3 c.in-Offset.member (trees.behinds (seen.suffixes_of c.in-Offset.list.value.items) trees.None_behind) c.in-Offset.field-6) c.args.made.now)) (sym c.deref-in-Offset.ensures)
    ∙ ap (λ xs. run_by (answered (told_of c.args.around.now)) (spec.judge (context_of c.args.around.now) c.args.place (trees.Offset_of c.in-Offset.at c.in-Offset.field-1 (seen.type_of c.deref-in-Offset.result.now) c.in-Offset.field-3 c.in-Offset.member (trees.behinds (seen.suffixes_of xs.items) trees.None_behind) c.in-Offset.field-6) c.args.made.now)) (sym c.deref-in-Offset-2.ensures)
    ∙ on (answered (told_of c.args.around.now)) (spec.type_name (context_of c.args.around.now) c.args.place (seen.type_of c.deref-in-Offset.result.now) c.args.made.now) (λ x now. follow (ways.way_from (context_of c.args.around.now) x c.in-Offset.member now) (λ s next. follow (spec.steps_to (context_of c.args.around.now) c.args.place (trees.behinds (seen.suffixes_of c.deref-in-Offset-2.result.now.items) trees.None_behind) s next) (λ r. casts.offset (context_of c.args.around.now) c.in-Offset.at x r.steps))) (c.in-Ok-type_name.done) (c.type_name-in-Offset.new.made) c.in-Ok-type_name.ensures
    ∙ on (answered (told_of c.args.around.now)) (ways.way_from (context_of c.args.around.now) c.in-Ok-type_name.done c.in-Offset.member c.type_name-in-Offset.new.made) (λ x now. follow (spec.steps_to (context_of c.args.around.now) c.args.place (trees.behinds (seen.suffixes_of c.deref-in-Offset-2.result.now.items) trees.None_behind) x now) (λ r. casts.offset (context_of c.args.around.now) c.in-Offset.at c.in-Ok-type_name.done r.steps)) (c.in-Ok-way_from.done) (c.way_from.new.made) c.in-Ok-way_from.ensures
    ∙ on (answered (told_of c.args.around.now)) (spec.steps_to (context_of c.args.around.now) c.args.place (trees.behinds (seen.suffixes_of c.deref-in-Offset-2.result.now.items) trees.None_behind) c.in-Ok-way_from.done c.way_from.new.made) (λ x now. casts.offset (context_of c.args.around.now) c.in-Offset.at c.in-Ok-type_name.done x.steps now) (c.steps_to.new.way) (c.steps_to.new.made) c.in-Ok-steps_to.ensures)
    c.place_of_member.ensures

pub generics::association-returns-in-Err : goal.generics::association-returns-in-Err
generics::association-returns-in-Err t c =
    stops_as (run_by (answered (told_of c.args.around.now)) (follow (spec.type_name (context_of c.args.around.now) c.args.place (seen.type_of c.deref.result.now) c.args.made.now) (λ x now. follow (spec.judge (context_of c.args.around.now) c.args.place (seen.tree_of c.in-Typed.part) now) (λ j. gives (choosing.with_choice (choosing.typed_association x) j c.args.choices.now))))) (run_by (answered (told_of c.args.around.now)) (spec.association_of (context_of c.args.around.now) c.args.place (seen.association_of c.args.next.now) c.args.choices.now c.args.made.now)) c.in-Err.halt
    (sym (ap (λ x. run_by (answered (told_of c.args.around.now)) (spec.association_of (context_of c.args.around.now) c.args.place x c.args.choices.now c.args.made.now)) (layers.choice_typed c.args.next.now c.in-Typed.name c.in-Typed.field-1 c.in-Typed.part c.in-Typed.is)
    ∙ ap (λ e. run_by (answered (told_of c.args.around.now)) (spec.association_of (context_of c.args.around.now) c.args.place (trees.Typed_of (seen.type_of e) c.in-Typed.field-1 (seen.tree_of c.in-Typed.part)) c.args.choices.now c.args.made.now)) (sym c.deref.ensures)))
    (off (answered (told_of c.args.around.now)) (spec.type_name (context_of c.args.around.now) c.args.place (seen.type_of c.deref.result.now) c.args.made.now) (λ x now. follow (spec.judge (context_of c.args.around.now) c.args.place (seen.tree_of c.in-Typed.part) now) (λ j. gives (choosing.with_choice (choosing.typed_association x) j c.args.choices.now))) c.in-Err.halt c.in-Err.ensures)

pub generics::association-returns-in-Ok : goal.generics::association-returns-in-Ok
generics::association-returns-in-Ok t c =
    comes_as (told_of c.args.around.now) (spec.association_of (context_of c.args.around.now) c.args.place (seen.association_of c.args.next.now) c.args.choices.now c.args.made.now) (follow (spec.judge (context_of c.args.around.now) c.args.place (seen.tree_of c.in-Typed.part) c.type_name.new.made) (λ j. gives (choosing.with_choice (choosing.typed_association c.in-Ok.done) j c.args.choices.now))) (λ u. c.choice.new.choices) c.choice.result c.choice.new.made
    (ap (λ x. run_by (answered (told_of c.args.around.now)) (spec.association_of (context_of c.args.around.now) c.args.place x c.args.choices.now c.args.made.now)) (layers.choice_typed c.args.next.now c.in-Typed.name c.in-Typed.field-1 c.in-Typed.part c.in-Typed.is)
    ∙ ap (λ e. run_by (answered (told_of c.args.around.now)) (spec.association_of (context_of c.args.around.now) c.args.place (trees.Typed_of (seen.type_of e) c.in-Typed.field-1 (seen.tree_of c.in-Typed.part)) c.args.choices.now c.args.made.now)) (sym c.deref.ensures)
    ∙ on (answered (told_of c.args.around.now)) (spec.type_name (context_of c.args.around.now) c.args.place (seen.type_of c.deref.result.now) c.args.made.now) (λ x now. follow (spec.judge (context_of c.args.around.now) c.args.place (seen.tree_of c.in-Typed.part) now) (λ j. gives (choosing.with_choice (choosing.typed_association x) j c.args.choices.now))) (c.in-Ok.done) (c.type_name.new.made) c.in-Ok.ensures)
    c.choice.ensures

pub generics::association-returns-in-Default : goal.generics::association-returns-in-Default
generics::association-returns-in-Default t c =
    comes_as (told_of c.args.around.now) (spec.association_of (context_of c.args.around.now) c.args.place (seen.association_of c.args.next.now) c.args.choices.now c.args.made.now) (spec.association_of (context_of c.args.around.now) c.args.place (trees.Default_of c.in-Default.field-0 c.in-Default.field-1 (seen.tree_of c.in-Default.part)) c.args.choices.now c.args.made.now) (λ u. c.choice-in-Default.new.choices) c.choice-in-Default.result c.choice-in-Default.new.made
    (ap (λ x. run_by (answered (told_of c.args.around.now)) (spec.association_of (context_of c.args.around.now) c.args.place x c.args.choices.now c.args.made.now)) (layers.choice_default c.args.next.now c.in-Default.field-0 c.in-Default.field-1 c.in-Default.part c.in-Default.is))
    c.choice-in-Default.ensures

pub naming::type_name-returns-in-Err : goal.naming::type_name-returns-in-Err
naming::type_name-returns-in-Err t c =
    stops_as (run_by (answered (told_of c.args.around.now)) (follow (spec.specifiers (context_of c.args.around.now) c.args.place (seen.specs_of (out-TypeName c.args.name.now).specs) specifiers.nothing c.args.made.now) (λ x now. follow (Gives (specifiers.settled (ends.specifiers_begin (seen.specs_of (out-TypeName c.args.name.now).specs)) x now)) (λ ty next. follow (spec.declarator (context_of c.args.around.now) c.args.place (seen.declarator_of (out-TypeName c.args.name.now).declarator) next) (λ ss last. steps.derived (context_of c.args.around.now) (ends.place_of (seen.specs_of (out-TypeName c.args.name.now).specs) (seen.declarator_of (out-TypeName c.args.name.now).declarator)) false ss ty last))))) (run_by (answered (told_of c.args.around.now)) (spec.type_name (context_of c.args.around.now) c.args.place (seen.type_of c.args.name.now) c.args.made.now)) c.in-Err.halt
    (sym (ap (λ x. run_by (answered (told_of c.args.around.now)) (spec.type_name (context_of c.args.around.now) c.args.place x c.args.made.now)) (layers.type_name_is c.args.name.now)))
    (off (answered (told_of c.args.around.now)) (spec.specifiers (context_of c.args.around.now) c.args.place (seen.specs_of (out-TypeName c.args.name.now).specs) specifiers.nothing c.args.made.now) (λ x now. follow (Gives (specifiers.settled (ends.specifiers_begin (seen.specs_of (out-TypeName c.args.name.now).specs)) x now)) (λ ty next. follow (spec.declarator (context_of c.args.around.now) c.args.place (seen.declarator_of (out-TypeName c.args.name.now).declarator) next) (λ ss last. steps.derived (context_of c.args.around.now) (ends.place_of (seen.specs_of (out-TypeName c.args.name.now).specs) (seen.declarator_of (out-TypeName c.args.name.now).declarator)) false ss ty last))) c.in-Err.halt c.in-Err.ensures)

pub naming::type_name-returns-in-Err-declarator : goal.naming::type_name-returns-in-Err-declarator
naming::type_name-returns-in-Err-declarator t c =
    let is1 : (c.in-Ok-settled.base, c.settled.new.made) ≡ specifiers.settled (ends.specifiers_begin (seen.specs_of (out-TypeName c.args.name.now).specs)) c.in-Ok.done c.specifiers.new.made = search rules in
    stops_as (run_by (answered (told_of c.args.around.now)) (follow (spec.declarator (context_of c.args.around.now) c.args.place (seen.declarator_of (out-TypeName c.args.name.now).declarator) c.settled.new.made) (λ x now. steps.derived (context_of c.args.around.now) (ends.place_of (seen.specs_of (out-TypeName c.args.name.now).specs) (seen.declarator_of (out-TypeName c.args.name.now).declarator)) false x c.in-Ok-settled.base now))) (run_by (answered (told_of c.args.around.now)) (spec.type_name (context_of c.args.around.now) c.args.place (seen.type_of c.args.name.now) c.args.made.now)) c.in-Err-declarator.halt
    (sym (ap (λ x. run_by (answered (told_of c.args.around.now)) (spec.type_name (context_of c.args.around.now) c.args.place x c.args.made.now)) (layers.type_name_is c.args.name.now)
    ∙ on (answered (told_of c.args.around.now)) (spec.specifiers (context_of c.args.around.now) c.args.place (seen.specs_of (out-TypeName c.args.name.now).specs) specifiers.nothing c.args.made.now) (λ x now. follow (Gives (specifiers.settled (ends.specifiers_begin (seen.specs_of (out-TypeName c.args.name.now).specs)) x now)) (λ ty next. follow (spec.declarator (context_of c.args.around.now) c.args.place (seen.declarator_of (out-TypeName c.args.name.now).declarator) next) (λ ss last. steps.derived (context_of c.args.around.now) (ends.place_of (seen.specs_of (out-TypeName c.args.name.now).specs) (seen.declarator_of (out-TypeName c.args.name.now).declarator)) false ss ty last))) (c.in-Ok.done) (c.specifiers.new.made) c.in-Ok.ensures
    ∙ ap (λ p. run_by (answered (told_of c.args.around.now)) (follow (spec.declarator (context_of c.args.around.now) c.args.place (seen.declarator_of (out-TypeName c.args.name.now).declarator) p.1) (λ ss last. steps.derived (context_of c.args.around.now) (ends.place_of (seen.specs_of (out-TypeName c.args.name.now).specs) (seen.declarator_of (out-TypeName c.args.name.now).declarator)) false ss p.0 last))) (sym is1)))
    (off (answered (told_of c.args.around.now)) (spec.declarator (context_of c.args.around.now) c.args.place (seen.declarator_of (out-TypeName c.args.name.now).declarator) c.settled.new.made) (λ x now. steps.derived (context_of c.args.around.now) (ends.place_of (seen.specs_of (out-TypeName c.args.name.now).specs) (seen.declarator_of (out-TypeName c.args.name.now).declarator)) false x c.in-Ok-settled.base now) c.in-Err-declarator.halt c.in-Err-declarator.ensures)

pub naming::type_name-returns : goal.naming::type_name-returns
naming::type_name-returns t c =
    let is1 : (c.in-Ok-settled.base, c.settled.new.made) ≡ specifiers.settled (ends.specifiers_begin (seen.specs_of (out-TypeName c.args.name.now).specs)) c.in-Ok.done c.specifiers.new.made = search rules in
    let is3 : c.place_of-at.result ≡ (ends.place_of (seen.specs_of (out-TypeName c.args.name.now).specs) (seen.declarator_of (out-TypeName c.args.name.now).declarator)) = search rules in
    comes_as (told_of c.args.around.now) (spec.type_name (context_of c.args.around.now) c.args.place (seen.type_of c.args.name.now) c.args.made.now) (steps.derived (context_of c.args.around.now) c.place_of-at.result false c.in-Ok-declarator.done c.in-Ok-settled.base c.declarator.new.made) (λ x. x) c.derived.result c.derived.new.made
    (ap (λ x. run_by (answered (told_of c.args.around.now)) (spec.type_name (context_of c.args.around.now) c.args.place x c.args.made.now)) (layers.type_name_is c.args.name.now)
    ∙ on (answered (told_of c.args.around.now)) (spec.specifiers (context_of c.args.around.now) c.args.place (seen.specs_of (out-TypeName c.args.name.now).specs) specifiers.nothing c.args.made.now) (λ x now. follow (Gives (specifiers.settled (ends.specifiers_begin (seen.specs_of (out-TypeName c.args.name.now).specs)) x now)) (λ ty next. follow (spec.declarator (context_of c.args.around.now) c.args.place (seen.declarator_of (out-TypeName c.args.name.now).declarator) next) (λ ss last. steps.derived (context_of c.args.around.now) (ends.place_of (seen.specs_of (out-TypeName c.args.name.now).specs) (seen.declarator_of (out-TypeName c.args.name.now).declarator)) false ss ty last))) (c.in-Ok.done) (c.specifiers.new.made) c.in-Ok.ensures
    ∙ ap (λ p. run_by (answered (told_of c.args.around.now)) (follow (spec.declarator (context_of c.args.around.now) c.args.place (seen.declarator_of (out-TypeName c.args.name.now).declarator) p.1) (λ ss last. steps.derived (context_of c.args.around.now) (ends.place_of (seen.specs_of (out-TypeName c.args.name.now).specs) (seen.declarator_of (out-TypeName c.args.name.now).declarator)) false ss p.0 last))) (sym is1)
    ∙ on (answered (told_of c.args.around.now)) (spec.declarator (context_of c.args.around.now) c.args.place (seen.declarator_of (out-TypeName c.args.name.now).declarator) c.settled.new.made) (λ x now. steps.derived (context_of c.args.around.now) (ends.place_of (seen.specs_of (out-TypeName c.args.name.now).specs) (seen.declarator_of (out-TypeName c.args.name.now).declarator)) false x c.in-Ok-settled.base now) (c.in-Ok-declarator.done) (c.declarator.new.made) c.in-Ok-declarator.ensures
    ∙ ap (λ v. run_by (answered (told_of c.args.around.now)) (steps.derived (context_of c.args.around.now) v false c.in-Ok-declarator.done c.in-Ok-settled.base c.declarator.new.made)) (sym is3))
    c.derived.ensures

pub naming::declarator-returns-in-Err : goal.naming::declarator-returns-in-Err
naming::declarator-returns-in-Err t c =
    let is0 : (c.in-Ok.pointers, c.add_pointers.new.made) ≡ spec.pointer_steps (context_of c.args.around.now) (seen.pointers_of (out-Declarator c.args.declarator.now).pointers.items) [] c.args.made.now = search rules in
    stops_as (run_by (answered (told_of c.args.around.now)) (follow (spec.grouping (context_of c.args.around.now) c.args.place (seen.group_of (out-Declarator c.args.declarator.now).group) c.add_pointers.new.made) (λ x now. follow (spec.derivings (context_of c.args.around.now) c.args.place (trees.derivings (seen.derivings_of (out-Declarator c.args.declarator.now).derivings.items) trees.No_derivings) x now) (λ ss. gives (steps.moved c.in-Ok.pointers ss))))) (run_by (answered (told_of c.args.around.now)) (spec.declarator (context_of c.args.around.now) c.args.place (seen.declarator_of c.args.declarator.now) c.args.made.now)) c.in-Err.halt
    (sym (ap (λ x. run_by (answered (told_of c.args.around.now)) (spec.declarator (context_of c.args.around.now) c.args.place x c.args.made.now)) (layers.declarator_is c.args.declarator.now)
    ∙ ap (λ p. run_by (answered (told_of c.args.around.now)) (follow (spec.grouping (context_of c.args.around.now) c.args.place (seen.group_of (out-Declarator c.args.declarator.now).group) p.1) (λ outer next. follow (spec.derivings (context_of c.args.around.now) c.args.place (trees.derivings (seen.derivings_of (out-Declarator c.args.declarator.now).derivings.items) trees.No_derivings) outer next) (λ ss. gives (steps.moved p.0 ss))))) (sym is0)))
    (off (answered (told_of c.args.around.now)) (spec.grouping (context_of c.args.around.now) c.args.place (seen.group_of (out-Declarator c.args.declarator.now).group) c.add_pointers.new.made) (λ x now. follow (spec.derivings (context_of c.args.around.now) c.args.place (trees.derivings (seen.derivings_of (out-Declarator c.args.declarator.now).derivings.items) trees.No_derivings) x now) (λ ss. gives (steps.moved c.in-Ok.pointers ss))) c.in-Err.halt c.in-Err.ensures)

pub naming::declarator-returns-in-Err-derivings : goal.naming::declarator-returns-in-Err-derivings
naming::declarator-returns-in-Err-derivings t c =
    let is0 : (c.in-Ok.pointers, c.add_pointers.new.made) ≡ spec.pointer_steps (context_of c.args.around.now) (seen.pointers_of (out-Declarator c.args.declarator.now).pointers.items) [] c.args.made.now = search rules in
    stops_as (run_by (answered (told_of c.args.around.now)) (follow (spec.derivings (context_of c.args.around.now) c.args.place (trees.derivings (seen.derivings_of (out-Declarator c.args.declarator.now).derivings.items) trees.No_derivings) c.in-Ok-group.done c.group.new.made) (λ x now. gives (steps.moved c.in-Ok.pointers x) now))) (run_by (answered (told_of c.args.around.now)) (spec.declarator (context_of c.args.around.now) c.args.place (seen.declarator_of c.args.declarator.now) c.args.made.now)) c.in-Err-derivings.halt
    (sym (ap (λ x. run_by (answered (told_of c.args.around.now)) (spec.declarator (context_of c.args.around.now) c.args.place x c.args.made.now)) (layers.declarator_is c.args.declarator.now)
    ∙ ap (λ p. run_by (answered (told_of c.args.around.now)) (follow (spec.grouping (context_of c.args.around.now) c.args.place (seen.group_of (out-Declarator c.args.declarator.now).group) p.1) (λ outer next. follow (spec.derivings (context_of c.args.around.now) c.args.place (trees.derivings (seen.derivings_of (out-Declarator c.args.declarator.now).derivings.items) trees.No_derivings) outer next) (λ ss. gives (steps.moved p.0 ss))))) (sym is0)
    ∙ on (answered (told_of c.args.around.now)) (spec.grouping (context_of c.args.around.now) c.args.place (seen.group_of (out-Declarator c.args.declarator.now).group) c.add_pointers.new.made) (λ x now. follow (spec.derivings (context_of c.args.around.now) c.args.place (trees.derivings (seen.derivings_of (out-Declarator c.args.declarator.now).derivings.items) trees.No_derivings) x now) (λ ss. gives (steps.moved c.in-Ok.pointers ss))) (c.in-Ok-group.done) (c.group.new.made) c.in-Ok-group.ensures))
    (off (answered (told_of c.args.around.now)) (spec.derivings (context_of c.args.around.now) c.args.place (trees.derivings (seen.derivings_of (out-Declarator c.args.declarator.now).derivings.items) trees.No_derivings) c.in-Ok-group.done c.group.new.made) (λ x now. gives (steps.moved c.in-Ok.pointers x) now) c.in-Err-derivings.halt c.in-Err-derivings.ensures)

pub naming::declarator-returns : goal.naming::declarator-returns
naming::declarator-returns t c =
    let is0 : (c.in-Ok.pointers, c.add_pointers.new.made) ≡ spec.pointer_steps (context_of c.args.around.now) (seen.pointers_of (out-Declarator c.args.declarator.now).pointers.items) [] c.args.made.now = search rules in
    let last : c.move_back.new.steps ≡ steps.moved c.in-Ok.pointers c.derivings.new.steps = search rules in
    ap (λ x. run_by (answered (told_of c.args.around.now)) (spec.declarator (context_of c.args.around.now) c.args.place x c.args.made.now)) (layers.declarator_is c.args.declarator.now)
    ∙ ap (λ p. run_by (answered (told_of c.args.around.now)) (follow (spec.grouping (context_of c.args.around.now) c.args.place (seen.group_of (out-Declarator c.args.declarator.now).group) p.1) (λ outer next. follow (spec.derivings (context_of c.args.around.now) c.args.place (trees.derivings (seen.derivings_of (out-Declarator c.args.declarator.now).derivings.items) trees.No_derivings) outer next) (λ ss. gives (steps.moved p.0 ss))))) (sym is0)
    ∙ on (answered (told_of c.args.around.now)) (spec.grouping (context_of c.args.around.now) c.args.place (seen.group_of (out-Declarator c.args.declarator.now).group) c.add_pointers.new.made) (λ x now. follow (spec.derivings (context_of c.args.around.now) c.args.place (trees.derivings (seen.derivings_of (out-Declarator c.args.declarator.now).derivings.items) trees.No_derivings) x now) (λ ss. gives (steps.moved c.in-Ok.pointers ss))) (c.in-Ok-group.done) (c.group.new.made) c.in-Ok-group.ensures
    ∙ on (answered (told_of c.args.around.now)) (spec.derivings (context_of c.args.around.now) c.args.place (trees.derivings (seen.derivings_of (out-Declarator c.args.declarator.now).derivings.items) trees.No_derivings) c.in-Ok-group.done c.group.new.made) (λ x now. gives (steps.moved c.in-Ok.pointers x) now) (c.derivings.new.steps) (c.derivings.new.made) c.in-Ok-derivings.ensures
    ∙ ap (λ v. Ends (v, c.derivings.new.made)) (sym last)

pub naming::sized_array-returns-in-Err : goal.naming::sized_array-returns-in-Err
naming::sized_array-returns-in-Err t c =
    let is0 : (c.in-Ok.gathered, c.qualifiers.new.made) ≡ steps.qualifiers (context_of c.args.around.now) c.args.words.now.items c.args.made.now = search rules in
    stops_as (run_by (answered (told_of c.args.around.now)) (follow (spec.judge (context_of c.args.around.now) c.args.place (seen.tree_of c.args.size.now) c.qualifiers.new.made) (λ x now. follow (Gives (steps.sized c.args.opening (ends.first_of (seen.tree_of c.args.size.now)) x now)) (λ n. gives (steps.array_step c.args.opening c.in-Ok.gathered c.args.marked n))))) (run_by (answered (told_of c.args.around.now)) (spec.sized_array (context_of c.args.around.now) c.args.opening c.args.words.now.items c.args.marked (ends.first_of (seen.tree_of c.args.size.now)) (spec.judge (context_of c.args.around.now) c.args.place (seen.tree_of c.args.size.now)) c.args.made.now)) c.in-Err.halt
    (sym (ap (λ p. run_by (answered (told_of c.args.around.now)) (follow (spec.judge (context_of c.args.around.now) c.args.place (seen.tree_of c.args.size.now) p.1) (λ j next. follow (Gives (steps.sized c.args.opening (ends.first_of (seen.tree_of c.args.size.now)) j next)) (λ n. gives (steps.array_step c.args.opening p.0 c.args.marked n))))) (sym is0)))
    (off (answered (told_of c.args.around.now)) (spec.judge (context_of c.args.around.now) c.args.place (seen.tree_of c.args.size.now) c.qualifiers.new.made) (λ x now. follow (Gives (steps.sized c.args.opening (ends.first_of (seen.tree_of c.args.size.now)) x now)) (λ n. gives (steps.array_step c.args.opening c.in-Ok.gathered c.args.marked n))) c.in-Err.halt c.in-Err.ensures)

pub naming::sized_array-returns : goal.naming::sized_array-returns
naming::sized_array-returns t c =
    let is0 : (c.in-Ok.gathered, c.qualifiers.new.made) ≡ steps.qualifiers (context_of c.args.around.now) c.args.words.now.items c.args.made.now = search rules in
    let is2 : (c.in-Ok-sized.extent, c.sized.new.made) ≡ steps.sized c.args.opening (ends.first_of (seen.tree_of c.args.size.now)) c.in-Ok-judged.done c.judged.new.made = search rules in
    let last : c.array_step-step.result ≡ steps.array_step c.args.opening c.in-Ok.gathered c.args.marked c.in-Ok-sized.extent = search rules in
    ap (λ p. run_by (answered (told_of c.args.around.now)) (follow (spec.judge (context_of c.args.around.now) c.args.place (seen.tree_of c.args.size.now) p.1) (λ j next. follow (Gives (steps.sized c.args.opening (ends.first_of (seen.tree_of c.args.size.now)) j next)) (λ n. gives (steps.array_step c.args.opening p.0 c.args.marked n))))) (sym is0)
    ∙ on (answered (told_of c.args.around.now)) (spec.judge (context_of c.args.around.now) c.args.place (seen.tree_of c.args.size.now) c.qualifiers.new.made) (λ x now. follow (Gives (steps.sized c.args.opening (ends.first_of (seen.tree_of c.args.size.now)) x now)) (λ n. gives (steps.array_step c.args.opening c.in-Ok.gathered c.args.marked n))) (c.in-Ok-judged.done) (c.judged.new.made) c.in-Ok-judged.ensures
    ∙ ap (λ p. run_by (answered (told_of c.args.around.now)) (gives (steps.array_step c.args.opening c.in-Ok.gathered c.args.marked p.0) p.1)) (sym is2)
    ∙ ap (λ v. Ends (v, c.sized.new.made)) (sym last)

pub naming::add_deriving-returns-in-Err : goal.naming::add_deriving-returns-in-Err
naming::add_deriving-returns-in-Err t c =
    let is0 : c.nearest-within.result ≡ protos.nearest c.args.place c.args.steps.now = search rules in
    stops_as (run_by (answered (told_of c.args.around.now)) (follow (spec.derivation (context_of c.args.around.now) c.nearest-within.result (seen.deriving_of c.args.next.now) c.args.made.now) (λ x now. gives (x ∷ c.args.steps.now) now))) (run_by (answered (told_of c.args.around.now)) (follow (spec.derivation (context_of c.args.around.now) (protos.nearest c.args.place c.args.steps.now) (seen.deriving_of c.args.next.now) c.args.made.now) (λ s. gives (s ∷ c.args.steps.now)))) c.in-Err.halt
    (sym (ap (λ v. run_by (answered (told_of c.args.around.now)) (follow (spec.derivation (context_of c.args.around.now) v (seen.deriving_of c.args.next.now) c.args.made.now) (λ s. gives (s ∷ c.args.steps.now)))) (sym is0)))
    (off (answered (told_of c.args.around.now)) (spec.derivation (context_of c.args.around.now) c.nearest-within.result (seen.deriving_of c.args.next.now) c.args.made.now) (λ x now. gives (x ∷ c.args.steps.now) now) c.in-Err.halt c.in-Err.ensures)

pub naming::add_deriving-returns : goal.naming::add_deriving-returns
naming::add_deriving-returns t c =
    let is0 : c.nearest-within.result ≡ protos.nearest c.args.place c.args.steps.now = search rules in
    let last : c.push.new.self ≡ c.in-Ok.done ∷ c.args.steps.now = search rules in
    ap (λ v. run_by (answered (told_of c.args.around.now)) (follow (spec.derivation (context_of c.args.around.now) v (seen.deriving_of c.args.next.now) c.args.made.now) (λ s. gives (s ∷ c.args.steps.now)))) (sym is0)
    ∙ on (answered (told_of c.args.around.now)) (spec.derivation (context_of c.args.around.now) c.nearest-within.result (seen.deriving_of c.args.next.now) c.args.made.now) (λ x now. gives (x ∷ c.args.steps.now) now) (c.in-Ok.done) (c.derivation.new.made) c.in-Ok.ensures
    ∙ ap (λ v. Ends (v, c.derivation.new.made)) (sym last)

pub naming::add_entry-returns-in-Err : goal.naming::add_entry-returns-in-Err
naming::add_entry-returns-in-Err t c =
    off (answered (told_of c.args.around.now)) (spec.entry (context_of c.args.around.now) c.args.place (seen.type_of c.args.name.now) false c.args.made.now) (λ x now. gives (x ∷ c.args.types.now) now) c.in-Err.halt c.in-Err.ensures

pub naming::add_entry-returns : goal.naming::add_entry-returns
naming::add_entry-returns t c =
    let last : c.push.new.self ≡ c.in-Ok.done ∷ c.args.types.now = search rules in
    on (answered (told_of c.args.around.now)) (spec.entry (context_of c.args.around.now) c.args.place (seen.type_of c.args.name.now) false c.args.made.now) (λ x now. gives (x ∷ c.args.types.now) now) (c.in-Ok.done) (c.entry.new.made) c.in-Ok.ensures
    ∙ ap (λ v. Ends (v, c.entry.new.made)) (sym last)

pub naming::first_entry-returns-in-Err : goal.naming::first_entry-returns-in-Err
naming::first_entry-returns-in-Err t c =
    off (answered (told_of c.args.around.now)) (spec.entry (context_of c.args.around.now) c.args.place (seen.type_of c.args.name.now) c.args.alone c.args.made.now) (λ x now. gives (x ∷ []) now) c.in-Err.halt c.in-Err.ensures

pub naming::first_entry-returns : goal.naming::first_entry-returns
naming::first_entry-returns t c =
    let last : c.in-Ok-one.types ≡ c.in-Ok.done ∷ [] = search rules in
    on (answered (told_of c.args.around.now)) (spec.entry (context_of c.args.around.now) c.args.place (seen.type_of c.args.name.now) c.args.alone c.args.made.now) (λ x now. gives (x ∷ []) now) (c.in-Ok.done) (c.entry.new.made) c.in-Ok.ensures
    ∙ ap (λ v. Ends (v, c.entry.new.made)) (sym last)

pub naming::parameters-returns-in-Err : goal.naming::parameters-returns-in-Err
naming::parameters-returns-in-Err t c =
    let is0 : c.is_alone.result ≡ (ends.is_alone (trees.row (seen.parameter_row_of c.in-Fixed.more.items) trees.No_more)) = search rules in
    stops_as (run_by (answered (told_of c.args.around.now)) (follow (follow (spec.entry (context_of c.args.around.now) c.args.place (seen.type_of c.deref.result.now) c.is_alone.result c.args.made.now) (λ t. gives (t ∷ []))) (λ x now. follow (entries.stacked (context_of c.args.around.now) c.args.place (trees.row (seen.parameter_row_of c.in-Fixed.more.items) trees.No_more) x now) (λ us. gives (parameters.function_step proto.Fixed (parameters.all_in_front us (Some types.No_more))))))) (run_by (answered (told_of c.args.around.now)) (spec.parameters (context_of c.args.around.now) c.args.place (seen.parameters_of c.args.list.now) c.args.made.now)) c.in-Err.halt
    (sym (ap (λ x. run_by (answered (told_of c.args.around.now)) (spec.parameters (context_of c.args.around.now) c.args.place x c.args.made.now)) (layers.parameters_fixed c.args.list.now c.in-Fixed.first c.in-Fixed.more c.in-Fixed.is)
    ∙ ap (λ e. run_by (answered (told_of c.args.around.now)) (spec.parameters (context_of c.args.around.now) c.args.place (trees.Fixed_of (seen.type_of e) (trees.row (seen.parameter_row_of c.in-Fixed.more.items) trees.No_more)) c.args.made.now)) (sym c.deref.ensures)
    ∙ entries_are (answered (told_of c.args.around.now)) (context_of c.args.around.now) c.args.place proto.Fixed (spec.entry (context_of c.args.around.now) c.args.place (seen.type_of c.deref.result.now) (ends.is_alone (trees.row (seen.parameter_row_of c.in-Fixed.more.items) trees.No_more))) (trees.row (seen.parameter_row_of c.in-Fixed.more.items) trees.No_more) c.args.made.now
    ∙ ap (λ v. run_by (answered (told_of c.args.around.now)) (follow (follow (spec.entry (context_of c.args.around.now) c.args.place (seen.type_of c.deref.result.now) v c.args.made.now) (λ t. gives (t ∷ []))) (λ ts now. follow (entries.stacked (context_of c.args.around.now) c.args.place (trees.row (seen.parameter_row_of c.in-Fixed.more.items) trees.No_more) ts now) (λ us. gives (parameters.function_step proto.Fixed (parameters.all_in_front us (Some types.No_more))))))) (sym is0)))
    (off (answered (told_of c.args.around.now)) (follow (spec.entry (context_of c.args.around.now) c.args.place (seen.type_of c.deref.result.now) c.is_alone.result c.args.made.now) (λ t. gives (t ∷ []))) (λ x now. follow (entries.stacked (context_of c.args.around.now) c.args.place (trees.row (seen.parameter_row_of c.in-Fixed.more.items) trees.No_more) x now) (λ us. gives (parameters.function_step proto.Fixed (parameters.all_in_front us (Some types.No_more))))) c.in-Err.halt c.in-Err.ensures)

pub naming::parameters-returns-in-Err-add_entries : goal.naming::parameters-returns-in-Err-add_entries
naming::parameters-returns-in-Err-add_entries t c =
    let is0 : c.is_alone.result ≡ (ends.is_alone (trees.row (seen.parameter_row_of c.in-Fixed.more.items) trees.No_more)) = search rules in
    stops_as (run_by (answered (told_of c.args.around.now)) (follow (entries.stacked (context_of c.args.around.now) c.args.place (trees.row (seen.parameter_row_of c.in-Fixed.more.items) trees.No_more) c.in-Ok-first_entry.done c.first_entry.new.made) (λ x now. gives (parameters.function_step proto.Fixed (parameters.all_in_front x (Some types.No_more))) now))) (run_by (answered (told_of c.args.around.now)) (spec.parameters (context_of c.args.around.now) c.args.place (seen.parameters_of c.args.list.now) c.args.made.now)) c.in-Err-add_entries.halt
    (sym (ap (λ x. run_by (answered (told_of c.args.around.now)) (spec.parameters (context_of c.args.around.now) c.args.place x c.args.made.now)) (layers.parameters_fixed c.args.list.now c.in-Fixed.first c.in-Fixed.more c.in-Fixed.is)
    ∙ ap (λ e. run_by (answered (told_of c.args.around.now)) (spec.parameters (context_of c.args.around.now) c.args.place (trees.Fixed_of (seen.type_of e) (trees.row (seen.parameter_row_of c.in-Fixed.more.items) trees.No_more)) c.args.made.now)) (sym c.deref.ensures)
    ∙ entries_are (answered (told_of c.args.around.now)) (context_of c.args.around.now) c.args.place proto.Fixed (spec.entry (context_of c.args.around.now) c.args.place (seen.type_of c.deref.result.now) (ends.is_alone (trees.row (seen.parameter_row_of c.in-Fixed.more.items) trees.No_more))) (trees.row (seen.parameter_row_of c.in-Fixed.more.items) trees.No_more) c.args.made.now
    ∙ ap (λ v. run_by (answered (told_of c.args.around.now)) (follow (follow (spec.entry (context_of c.args.around.now) c.args.place (seen.type_of c.deref.result.now) v c.args.made.now) (λ t. gives (t ∷ []))) (λ ts now. follow (entries.stacked (context_of c.args.around.now) c.args.place (trees.row (seen.parameter_row_of c.in-Fixed.more.items) trees.No_more) ts now) (λ us. gives (parameters.function_step proto.Fixed (parameters.all_in_front us (Some types.No_more))))))) (sym is0)
    ∙ on (answered (told_of c.args.around.now)) (follow (spec.entry (context_of c.args.around.now) c.args.place (seen.type_of c.deref.result.now) c.is_alone.result c.args.made.now) (λ t. gives (t ∷ []))) (λ x now. follow (entries.stacked (context_of c.args.around.now) c.args.place (trees.row (seen.parameter_row_of c.in-Fixed.more.items) trees.No_more) x now) (λ us. gives (parameters.function_step proto.Fixed (parameters.all_in_front us (Some types.No_more))))) (c.in-Ok-first_entry.done) (c.first_entry.new.made) c.in-Ok-first_entry.ensures))
    (off (answered (told_of c.args.around.now)) (entries.stacked (context_of c.args.around.now) c.args.place (trees.row (seen.parameter_row_of c.in-Fixed.more.items) trees.No_more) c.in-Ok-first_entry.done c.first_entry.new.made) (λ x now. gives (parameters.function_step proto.Fixed (parameters.all_in_front x (Some types.No_more))) now) c.in-Err-add_entries.halt c.in-Err-add_entries.ensures)

pub naming::parameters-returns-in-Ok-function_step : goal.naming::parameters-returns-in-Ok-function_step
naming::parameters-returns-in-Ok-function_step t c =
    let is0 : c.is_alone.result ≡ (ends.is_alone (trees.row (seen.parameter_row_of c.in-Fixed.more.items) trees.No_more)) = search rules in
    let last : c.in-Ok-function_step.step ≡ parameters.function_step proto.Fixed (parameters.all_in_front c.add_entries.new.types (Some types.No_more)) = search rules in
    ap (λ x. run_by (answered (told_of c.args.around.now)) (spec.parameters (context_of c.args.around.now) c.args.place x c.args.made.now)) (layers.parameters_fixed c.args.list.now c.in-Fixed.first c.in-Fixed.more c.in-Fixed.is)
    ∙ ap (λ e. run_by (answered (told_of c.args.around.now)) (spec.parameters (context_of c.args.around.now) c.args.place (trees.Fixed_of (seen.type_of e) (trees.row (seen.parameter_row_of c.in-Fixed.more.items) trees.No_more)) c.args.made.now)) (sym c.deref.ensures)
    ∙ entries_are (answered (told_of c.args.around.now)) (context_of c.args.around.now) c.args.place proto.Fixed (spec.entry (context_of c.args.around.now) c.args.place (seen.type_of c.deref.result.now) (ends.is_alone (trees.row (seen.parameter_row_of c.in-Fixed.more.items) trees.No_more))) (trees.row (seen.parameter_row_of c.in-Fixed.more.items) trees.No_more) c.args.made.now
    ∙ ap (λ v. run_by (answered (told_of c.args.around.now)) (follow (follow (spec.entry (context_of c.args.around.now) c.args.place (seen.type_of c.deref.result.now) v c.args.made.now) (λ t. gives (t ∷ []))) (λ ts now. follow (entries.stacked (context_of c.args.around.now) c.args.place (trees.row (seen.parameter_row_of c.in-Fixed.more.items) trees.No_more) ts now) (λ us. gives (parameters.function_step proto.Fixed (parameters.all_in_front us (Some types.No_more))))))) (sym is0)
    ∙ on (answered (told_of c.args.around.now)) (follow (spec.entry (context_of c.args.around.now) c.args.place (seen.type_of c.deref.result.now) c.is_alone.result c.args.made.now) (λ t. gives (t ∷ []))) (λ x now. follow (entries.stacked (context_of c.args.around.now) c.args.place (trees.row (seen.parameter_row_of c.in-Fixed.more.items) trees.No_more) x now) (λ us. gives (parameters.function_step proto.Fixed (parameters.all_in_front us (Some types.No_more))))) (c.in-Ok-first_entry.done) (c.first_entry.new.made) c.in-Ok-first_entry.ensures
    ∙ on (answered (told_of c.args.around.now)) (entries.stacked (context_of c.args.around.now) c.args.place (trees.row (seen.parameter_row_of c.in-Fixed.more.items) trees.No_more) c.in-Ok-first_entry.done c.first_entry.new.made) (λ x now. gives (parameters.function_step proto.Fixed (parameters.all_in_front x (Some types.No_more))) now) (c.add_entries.new.types) (c.add_entries.new.made) c.in-Ok-add_entries.ensures
    ∙ ap (λ v. Ends (v, c.add_entries.new.made)) (sym last)

pub naming::parameters-returns-in-Err-first_entry : goal.naming::parameters-returns-in-Err-first_entry
naming::parameters-returns-in-Err-first_entry t c =
    stops_as (run_by (answered (told_of c.args.around.now)) (follow (follow (spec.entry (context_of c.args.around.now) c.args.place (seen.type_of c.deref-in-Variadic.result.now) false c.args.made.now) (λ t. gives (t ∷ []))) (λ x now. follow (entries.stacked (context_of c.args.around.now) c.args.place (trees.row (seen.parameter_row_of c.in-Variadic.more.items) trees.No_more) x now) (λ us. gives (parameters.function_step proto.Variadic (parameters.all_in_front us (Some types.No_more))))))) (run_by (answered (told_of c.args.around.now)) (spec.parameters (context_of c.args.around.now) c.args.place (seen.parameters_of c.args.list.now) c.args.made.now)) c.in-Err-first_entry.halt
    (sym (ap (λ x. run_by (answered (told_of c.args.around.now)) (spec.parameters (context_of c.args.around.now) c.args.place x c.args.made.now)) (layers.parameters_variadic c.args.list.now c.in-Variadic.first c.in-Variadic.more c.in-Variadic.field-2 c.in-Variadic.field-3 c.in-Variadic.is)
    ∙ ap (λ e. run_by (answered (told_of c.args.around.now)) (spec.parameters (context_of c.args.around.now) c.args.place (trees.Variadic_of (seen.type_of e) (trees.row (seen.parameter_row_of c.in-Variadic.more.items) trees.No_more) c.in-Variadic.field-2 c.in-Variadic.field-3) c.args.made.now)) (sym c.deref-in-Variadic.ensures)
    ∙ entries_are (answered (told_of c.args.around.now)) (context_of c.args.around.now) c.args.place proto.Variadic (spec.entry (context_of c.args.around.now) c.args.place (seen.type_of c.deref-in-Variadic.result.now) false) (trees.row (seen.parameter_row_of c.in-Variadic.more.items) trees.No_more) c.args.made.now))
    (off (answered (told_of c.args.around.now)) (follow (spec.entry (context_of c.args.around.now) c.args.place (seen.type_of c.deref-in-Variadic.result.now) false c.args.made.now) (λ t. gives (t ∷ []))) (λ x now. follow (entries.stacked (context_of c.args.around.now) c.args.place (trees.row (seen.parameter_row_of c.in-Variadic.more.items) trees.No_more) x now) (λ us. gives (parameters.function_step proto.Variadic (parameters.all_in_front us (Some types.No_more))))) c.in-Err-first_entry.halt c.in-Err-first_entry.ensures)

pub naming::parameters-returns-in-Err-add_entries-2 : goal.naming::parameters-returns-in-Err-add_entries-2
naming::parameters-returns-in-Err-add_entries-2 t c =
    stops_as (run_by (answered (told_of c.args.around.now)) (follow (entries.stacked (context_of c.args.around.now) c.args.place (trees.row (seen.parameter_row_of c.in-Variadic.more.items) trees.No_more) c.in-Ok-first_entry-2.done c.first_entry-in-Variadic.new.made) (λ x now. gives (parameters.function_step proto.Variadic (parameters.all_in_front x (Some types.No_more))) now))) (run_by (answered (told_of c.args.around.now)) (spec.parameters (context_of c.args.around.now) c.args.place (seen.parameters_of c.args.list.now) c.args.made.now)) c.in-Err-add_entries-2.halt
    (sym (ap (λ x. run_by (answered (told_of c.args.around.now)) (spec.parameters (context_of c.args.around.now) c.args.place x c.args.made.now)) (layers.parameters_variadic c.args.list.now c.in-Variadic.first c.in-Variadic.more c.in-Variadic.field-2 c.in-Variadic.field-3 c.in-Variadic.is)
    ∙ ap (λ e. run_by (answered (told_of c.args.around.now)) (spec.parameters (context_of c.args.around.now) c.args.place (trees.Variadic_of (seen.type_of e) (trees.row (seen.parameter_row_of c.in-Variadic.more.items) trees.No_more) c.in-Variadic.field-2 c.in-Variadic.field-3) c.args.made.now)) (sym c.deref-in-Variadic.ensures)
    ∙ entries_are (answered (told_of c.args.around.now)) (context_of c.args.around.now) c.args.place proto.Variadic (spec.entry (context_of c.args.around.now) c.args.place (seen.type_of c.deref-in-Variadic.result.now) false) (trees.row (seen.parameter_row_of c.in-Variadic.more.items) trees.No_more) c.args.made.now
    ∙ on (answered (told_of c.args.around.now)) (follow (spec.entry (context_of c.args.around.now) c.args.place (seen.type_of c.deref-in-Variadic.result.now) false c.args.made.now) (λ t. gives (t ∷ []))) (λ x now. follow (entries.stacked (context_of c.args.around.now) c.args.place (trees.row (seen.parameter_row_of c.in-Variadic.more.items) trees.No_more) x now) (λ us. gives (parameters.function_step proto.Variadic (parameters.all_in_front us (Some types.No_more))))) (c.in-Ok-first_entry-2.done) (c.first_entry-in-Variadic.new.made) c.in-Ok-first_entry-2.ensures))
    (off (answered (told_of c.args.around.now)) (entries.stacked (context_of c.args.around.now) c.args.place (trees.row (seen.parameter_row_of c.in-Variadic.more.items) trees.No_more) c.in-Ok-first_entry-2.done c.first_entry-in-Variadic.new.made) (λ x now. gives (parameters.function_step proto.Variadic (parameters.all_in_front x (Some types.No_more))) now) c.in-Err-add_entries-2.halt c.in-Err-add_entries-2.ensures)

pub naming::parameters-returns-in-Ok-function_step-2 : goal.naming::parameters-returns-in-Ok-function_step-2
naming::parameters-returns-in-Ok-function_step-2 t c =
    let last : c.in-Ok-function_step-2.step ≡ parameters.function_step proto.Variadic (parameters.all_in_front c.add_entries-in-Variadic.new.types (Some types.No_more)) = search rules in
    ap (λ x. run_by (answered (told_of c.args.around.now)) (spec.parameters (context_of c.args.around.now) c.args.place x c.args.made.now)) (layers.parameters_variadic c.args.list.now c.in-Variadic.first c.in-Variadic.more c.in-Variadic.field-2 c.in-Variadic.field-3 c.in-Variadic.is)
    ∙ ap (λ e. run_by (answered (told_of c.args.around.now)) (spec.parameters (context_of c.args.around.now) c.args.place (trees.Variadic_of (seen.type_of e) (trees.row (seen.parameter_row_of c.in-Variadic.more.items) trees.No_more) c.in-Variadic.field-2 c.in-Variadic.field-3) c.args.made.now)) (sym c.deref-in-Variadic.ensures)
    ∙ entries_are (answered (told_of c.args.around.now)) (context_of c.args.around.now) c.args.place proto.Variadic (spec.entry (context_of c.args.around.now) c.args.place (seen.type_of c.deref-in-Variadic.result.now) false) (trees.row (seen.parameter_row_of c.in-Variadic.more.items) trees.No_more) c.args.made.now
    ∙ on (answered (told_of c.args.around.now)) (follow (spec.entry (context_of c.args.around.now) c.args.place (seen.type_of c.deref-in-Variadic.result.now) false c.args.made.now) (λ t. gives (t ∷ []))) (λ x now. follow (entries.stacked (context_of c.args.around.now) c.args.place (trees.row (seen.parameter_row_of c.in-Variadic.more.items) trees.No_more) x now) (λ us. gives (parameters.function_step proto.Variadic (parameters.all_in_front us (Some types.No_more))))) (c.in-Ok-first_entry-2.done) (c.first_entry-in-Variadic.new.made) c.in-Ok-first_entry-2.ensures
    ∙ on (answered (told_of c.args.around.now)) (entries.stacked (context_of c.args.around.now) c.args.place (trees.row (seen.parameter_row_of c.in-Variadic.more.items) trees.No_more) c.in-Ok-first_entry-2.done c.first_entry-in-Variadic.new.made) (λ x now. gives (parameters.function_step proto.Variadic (parameters.all_in_front x (Some types.No_more))) now) (c.add_entries-in-Variadic.new.types) (c.add_entries-in-Variadic.new.made) c.in-Ok-add_entries-2.ensures
    ∙ ap (λ v. Ends (v, c.add_entries-in-Variadic.new.made)) (sym last)

pub naming::specifier-returns-in-Ok : goal.naming::specifier-returns-in-Ok
naming::specifier-returns-in-Ok t c =
    let last : (c.add_word.new.gathered, c.add_word.new.made) ≡ specifiers.with_word (words.word_of (tokens.spelling (context_of c.args.around.now).tokens c.in-Word.at)) c.in-Word.at c.args.gathered.now c.args.made.now = search rules in
    ap (λ x. run_by (answered (told_of c.args.around.now)) (spec.specifier (context_of c.args.around.now) c.args.place x c.args.gathered.now c.args.made.now)) (layers.specifier_word c.args.specifier.now c.in-Word.at c.in-Word.is)
    ∙ ap (λ r. Ends r) (sym last)

pub naming::specifier-returns-in-Err : goal.naming::specifier-returns-in-Err
naming::specifier-returns-in-Err t c =
    stops_as (run_by (answered (told_of c.args.around.now)) (follow (tags.typedef_name (context_of c.args.around.now) c.args.place.counted c.in-TypedefName.at c.args.made.now) (λ x now. gives (specifiers.with_other x c.args.gathered.now) now))) (run_by (answered (told_of c.args.around.now)) (spec.specifier (context_of c.args.around.now) c.args.place (seen.specifier_of c.args.specifier.now) c.args.gathered.now c.args.made.now)) c.in-Err.halt
    (sym (ap (λ x. run_by (answered (told_of c.args.around.now)) (spec.specifier (context_of c.args.around.now) c.args.place x c.args.gathered.now c.args.made.now)) (layers.specifier_typedef_name c.args.specifier.now c.in-TypedefName.at c.in-TypedefName.is)))
    (off (answered (told_of c.args.around.now)) (tags.typedef_name (context_of c.args.around.now) c.args.place.counted c.in-TypedefName.at c.args.made.now) (λ x now. gives (specifiers.with_other x c.args.gathered.now) now) c.in-Err.halt c.in-Err.ensures)

pub naming::specifier-returns-in-Ok-typedef_name : goal.naming::specifier-returns-in-Ok-typedef_name
naming::specifier-returns-in-Ok-typedef_name t c =
    let last : c.add_other.new.gathered ≡ specifiers.with_other c.in-Ok-typedef_name.done c.args.gathered.now = search rules in
    ap (λ x. run_by (answered (told_of c.args.around.now)) (spec.specifier (context_of c.args.around.now) c.args.place x c.args.gathered.now c.args.made.now)) (layers.specifier_typedef_name c.args.specifier.now c.in-TypedefName.at c.in-TypedefName.is)
    ∙ on (answered (told_of c.args.around.now)) (tags.typedef_name (context_of c.args.around.now) c.args.place.counted c.in-TypedefName.at c.args.made.now) (λ x now. gives (specifiers.with_other x c.args.gathered.now) now) (c.in-Ok-typedef_name.done) (c.typedef_name.new.made) c.in-Ok-typedef_name.ensures
    ∙ ap (λ v. Ends (v, c.typedef_name.new.made)) (sym last)

pub naming::specifier-returns-in-Err-tag : goal.naming::specifier-returns-in-Err-tag
naming::specifier-returns-in-Err-tag t c =
    stops_as (run_by (answered (told_of c.args.around.now)) (follow (tags.tag (context_of c.args.around.now) c.in-Tag.keyword c.in-Tag.at c.args.made.now) (λ x now. gives (listed.with_mention (context_of c.args.around.now) c.in-Tag.keyword x c.args.gathered.now) now))) (run_by (answered (told_of c.args.around.now)) (spec.specifier (context_of c.args.around.now) c.args.place (seen.specifier_of c.args.specifier.now) c.args.gathered.now c.args.made.now)) c.in-Err-tag.halt
    (sym (ap (λ x. run_by (answered (told_of c.args.around.now)) (spec.specifier (context_of c.args.around.now) c.args.place x c.args.gathered.now c.args.made.now)) (layers.specifier_tag c.args.specifier.now c.in-Tag.keyword c.in-Tag.at c.in-Tag.is)))
    (off (answered (told_of c.args.around.now)) (tags.tag (context_of c.args.around.now) c.in-Tag.keyword c.in-Tag.at c.args.made.now) (λ x now. gives (listed.with_mention (context_of c.args.around.now) c.in-Tag.keyword x c.args.gathered.now) now) c.in-Err-tag.halt c.in-Err-tag.ensures)

pub naming::specifier-returns-in-Ok-tag : goal.naming::specifier-returns-in-Ok-tag
naming::specifier-returns-in-Ok-tag t c =
    let last : c.add_mention.new.gathered ≡ listed.with_mention (context_of c.args.around.now) c.in-Tag.keyword c.in-Ok-tag.done c.args.gathered.now = search rules in
    ap (λ x. run_by (answered (told_of c.args.around.now)) (spec.specifier (context_of c.args.around.now) c.args.place x c.args.gathered.now c.args.made.now)) (layers.specifier_tag c.args.specifier.now c.in-Tag.keyword c.in-Tag.at c.in-Tag.is)
    ∙ on (answered (told_of c.args.around.now)) (tags.tag (context_of c.args.around.now) c.in-Tag.keyword c.in-Tag.at c.args.made.now) (λ x now. gives (listed.with_mention (context_of c.args.around.now) c.in-Tag.keyword x c.args.gathered.now) now) (c.in-Ok-tag.done) (c.tag.new.made) c.in-Ok-tag.ensures
    ∙ ap (λ v. Ends (v, c.tag.new.made)) (sym last)

pub naming::specifier-returns-in-AlignedAs : goal.naming::specifier-returns-in-AlignedAs
naming::specifier-returns-in-AlignedAs t c =
    subst (λ x. Comes (told_of c.args.around.now) (spec.specifier (context_of c.args.around.now) c.args.place x c.args.gathered.now c.args.made.now) (λ _. c.aligned_as.new.gathered) c.aligned_as.result c.aligned_as.new.made) (sym (layers.specifier_aligned_as c.args.specifier.now c.in-AlignedAs.keyword c.in-AlignedAs.field-1 c.in-AlignedAs.name c.in-AlignedAs.field-3 c.in-AlignedAs.is))
    (subst (λ e. Comes (told_of c.args.around.now) (spec.specifier (context_of c.args.around.now) c.args.place (trees.Aligned_as_of c.in-AlignedAs.keyword c.in-AlignedAs.field-1 (seen.type_of e) c.in-AlignedAs.field-3) c.args.gathered.now c.args.made.now) (λ _. c.aligned_as.new.gathered) c.aligned_as.result c.aligned_as.new.made) c.deref-in-AlignedAs.ensures c.aligned_as.ensures)

pub naming::specifier-returns-in-Aligned : goal.naming::specifier-returns-in-Aligned
naming::specifier-returns-in-Aligned t c =
    subst (λ x. Comes (told_of c.args.around.now) (spec.specifier (context_of c.args.around.now) c.args.place x c.args.gathered.now c.args.made.now) (λ _. c.aligned.new.gathered) c.aligned.result c.aligned.new.made) (sym (layers.specifier_aligned c.args.specifier.now c.in-Aligned.keyword c.in-Aligned.field-1 c.in-Aligned.size c.in-Aligned.field-3 c.in-Aligned.is))
    (subst (λ e. Comes (told_of c.args.around.now) (spec.specifier (context_of c.args.around.now) c.args.place (trees.Aligned_of c.in-Aligned.keyword c.in-Aligned.field-1 (seen.tree_of e) c.in-Aligned.field-3) c.args.gathered.now c.args.made.now) (λ _. c.aligned.new.gathered) c.aligned.result c.aligned.new.made) c.deref-in-Aligned.ensures c.aligned.ensures)

pub naming::specifier-returns-in-Members : goal.naming::specifier-returns-in-Members
naming::specifier-returns-in-Members t c =
    subst (λ x. Comes (told_of c.args.around.now) (spec.specifier (context_of c.args.around.now) c.args.place x c.args.gathered.now c.args.made.now) (λ _. c.structure.new.gathered) c.structure.result c.structure.new.made) (sym (layers.specifier_members c.args.specifier.now c.in-Members.keyword c.in-Members.tag c.in-Members.field-2 c.in-Members.list c.in-Members.field-4 c.in-Members.is))
    c.structure.ensures

pub naming::specifier-returns-in-Enumerators : goal.naming::specifier-returns-in-Enumerators
naming::specifier-returns-in-Enumerators t c =
    subst (λ x. Comes (told_of c.args.around.now) (spec.specifier (context_of c.args.around.now) c.args.place x c.args.gathered.now c.args.made.now) (λ _. c.enumeration.new.gathered) c.enumeration.result c.enumeration.new.made) (sym (layers.specifier_enumerators c.args.specifier.now c.in-Enumerators.list c.in-Enumerators.is))
    (subst (λ e. Comes (told_of c.args.around.now) (spec.specifier (context_of c.args.around.now) c.args.place (seen.enumeration_of e) c.args.gathered.now c.args.made.now) (λ _. c.enumeration.new.gathered) c.enumeration.result c.enumeration.new.made) c.deref-in-Enumerators.ensures c.enumeration.ensures)

pub naming::atomic-returns-in-Err : goal.naming::atomic-returns-in-Err
naming::atomic-returns-in-Err t c =
    let is0 : c.leave_out.new.made ≡ left_out (codes "_Atomic") c.args.keyword c.args.made.now = search rules in
    stops_as (run_by (answered (told_of c.args.around.now)) (follow (spec.type_name (context_of c.args.around.now) c.args.place (seen.type_of c.args.name.now) c.leave_out.new.made) (λ x now. gives (specifiers.faulty c.args.gathered.now) now))) (run_by (answered (told_of c.args.around.now)) (spec.specifier (context_of c.args.around.now) c.args.place (trees.Atomic_of c.args.keyword 0 (seen.type_of c.args.name.now) 0) c.args.gathered.now c.args.made.now)) c.in-Err.halt
    (sym (ap (λ v. run_by (answered (told_of c.args.around.now)) (follow (spec.type_name (context_of c.args.around.now) c.args.place (seen.type_of c.args.name.now) v) (λ t. gives (specifiers.faulty c.args.gathered.now)))) (sym is0)))
    (off (answered (told_of c.args.around.now)) (spec.type_name (context_of c.args.around.now) c.args.place (seen.type_of c.args.name.now) c.leave_out.new.made) (λ x now. gives (specifiers.faulty c.args.gathered.now) now) c.in-Err.halt c.in-Err.ensures)

pub naming::atomic-returns : goal.naming::atomic-returns
naming::atomic-returns t c =
    let is0 : c.leave_out.new.made ≡ left_out (codes "_Atomic") c.args.keyword c.args.made.now = search rules in
    ap (λ v. run_by (answered (told_of c.args.around.now)) (follow (spec.type_name (context_of c.args.around.now) c.args.place (seen.type_of c.args.name.now) v) (λ t. gives (specifiers.faulty c.args.gathered.now)))) (sym is0)
    ∙ on (answered (told_of c.args.around.now)) (spec.type_name (context_of c.args.around.now) c.args.place (seen.type_of c.args.name.now) c.leave_out.new.made) (λ x now. gives (specifiers.faulty c.args.gathered.now) now) (c.in-Ok-type_name.field-0) (c.type_name.new.made) c.in-Ok-type_name.ensures

pub naming::bound-returns-in-Ok : goal.naming::bound-returns-in-Ok
naming::bound-returns-in-Ok t c =
    let is0 : (c.in-Ok.gathered, c.qualifiers.new.made) ≡ steps.qualifiers (context_of c.args.around.now) c.in-Unsized.words.items c.args.made.now = search rules in
    let last : c.array_step-step.result ≡ steps.array_step c.args.opening c.in-Ok.gathered (steps.is_some_of c.in-Unsized.words.items) (Some extent.None) = search rules in
    ap (λ x. run_by (answered (told_of c.args.around.now)) (spec.bound (context_of c.args.around.now) c.args.place c.args.opening x c.args.made.now)) (layers.bound_unsized c.args.bound.now c.in-Unsized.words c.in-Unsized.is)
    ∙ ap (λ p. run_by (answered (told_of c.args.around.now)) (gives (steps.array_step c.args.opening p.0 (steps.is_some_of c.in-Unsized.words.items) (Some extent.None)) p.1)) (sym is0)
    ∙ ap (λ v. Ends (v, c.qualifiers.new.made)) (sym last)

pub naming::bound-returns-in-Ok-leave_variable : goal.naming::bound-returns-in-Ok-leave_variable
naming::bound-returns-in-Ok-leave_variable t c =
    let last : c.leave_variable.new.made ≡ left_out steps.variable c.args.opening c.args.made.now = search rules in
    ap (λ x. run_by (answered (told_of c.args.around.now)) (spec.bound (context_of c.args.around.now) c.args.place c.args.opening x c.args.made.now)) (layers.bound_any_size c.args.bound.now c.in-AnySize.field-0 c.in-AnySize.field-1 c.in-AnySize.is)
    ∙ ap (λ m. Ends (step.Bad, m)) (sym last)

pub naming::bound-returns-in-Sized : goal.naming::bound-returns-in-Sized
naming::bound-returns-in-Sized t c =
    let is0 : c.are_some-in-Sized.result ≡ steps.is_some_of c.in-Sized.words.items = search rules in
    comes_as (told_of c.args.around.now) (spec.bound (context_of c.args.around.now) c.args.place c.args.opening (seen.bound_of c.args.bound.now) c.args.made.now) (spec.sized_array (context_of c.args.around.now) c.args.opening c.in-Sized.words.items c.are_some-in-Sized.result (ends.first_of (seen.tree_of c.deref.result.now)) (spec.judge (context_of c.args.around.now) c.args.place (seen.tree_of c.deref.result.now)) c.args.made.now) (λ x. x) c.sized_array.result c.sized_array.new.made
    (ap (λ x. run_by (answered (told_of c.args.around.now)) (spec.bound (context_of c.args.around.now) c.args.place c.args.opening x c.args.made.now)) (layers.bound_sized c.args.bound.now c.in-Sized.words c.in-Sized.size c.in-Sized.is)
    ∙ ap (λ e. run_by (answered (told_of c.args.around.now)) (spec.bound (context_of c.args.around.now) c.args.place c.args.opening (trees.Sized_of c.in-Sized.words.items (seen.tree_of e)) c.args.made.now)) (sym c.deref.ensures)
    ∙ ap (λ v. run_by (answered (told_of c.args.around.now)) (spec.sized_array (context_of c.args.around.now) c.args.opening c.in-Sized.words.items v (ends.first_of (seen.tree_of c.deref.result.now)) (spec.judge (context_of c.args.around.now) c.args.place (seen.tree_of c.deref.result.now)) c.args.made.now)) (sym is0))
    c.sized_array.ensures

pub naming::derivation-returns-in-Array : goal.naming::derivation-returns-in-Array
naming::derivation-returns-in-Array t c =
    let is : c.in_list.result ≡ protos.in_list c.args.place = search rules in
    comes_as (told_of c.args.around.now) (spec.derivation (context_of c.args.around.now) c.args.place (seen.deriving_of c.args.next.now) c.args.made.now) (spec.bound (context_of c.args.around.now) c.in_list.result c.in-Array.opening (seen.bound_of c.in-Array.inner) c.args.made.now) (λ x. x) c.bound.result c.bound.new.made
    (ap (λ x. run_by (answered (told_of c.args.around.now)) (spec.derivation (context_of c.args.around.now) c.args.place x c.args.made.now)) (layers.derivation_array c.args.next.now c.in-Array.opening c.in-Array.inner c.in-Array.field-2 c.in-Array.is)
    ∙ ap (λ w. run_by (answered (told_of c.args.around.now)) (spec.bound (context_of c.args.around.now) w c.in-Array.opening (seen.bound_of c.in-Array.inner) c.args.made.now)) (sym is))
    c.bound.ensures

pub naming::prototype-returns-in-Err : goal.naming::prototype-returns-in-Err
naming::prototype-returns-in-Err t c =
    let is0 : (record c.args.made.now { names = c.enter.new.self }) ≡ parameters.in_prototype c.args.made.now = search rules in
    stops_as (run_by (answered (told_of c.args.around.now)) (follow (spec.parameters (context_of c.args.around.now) c.args.place (seen.parameters_of c.args.list.now) (record c.args.made.now { names = c.enter.new.self })) (λ x now. gives x (protos.out_of c.args.place (length c.args.made.now.entities) now)))) (run_by (answered (told_of c.args.around.now)) (spec.derivation (context_of c.args.around.now) c.args.place (trees.Function_of 0 (seen.parameters_of c.args.list.now) 0) c.args.made.now)) c.in-Err.halt
    (sym (ap (λ v. run_by (answered (told_of c.args.around.now)) (follow (spec.parameters (context_of c.args.around.now) c.args.place (seen.parameters_of c.args.list.now) v) (λ s now. gives s (protos.out_of c.args.place (length c.args.made.now.entities) now)))) (sym is0)))
    (off (answered (told_of c.args.around.now)) (spec.parameters (context_of c.args.around.now) c.args.place (seen.parameters_of c.args.list.now) (record c.args.made.now { names = c.enter.new.self })) (λ x now. gives x (protos.out_of c.args.place (length c.args.made.now.entities) now)) c.in-Err.halt c.in-Err.ensures)

pub naming::prototype-returns : goal.naming::prototype-returns
naming::prototype-returns t c =
    let is0 : (record c.args.made.now { names = c.enter.new.self }) ≡ parameters.in_prototype c.args.made.now = search rules in
    let last : c.leave_list.new.made ≡ protos.out_of c.args.place (length c.args.made.now.entities) c.parameters.new.made = search rules in
    ap (λ v. run_by (answered (told_of c.args.around.now)) (follow (spec.parameters (context_of c.args.around.now) c.args.place (seen.parameters_of c.args.list.now) v) (λ s now. gives s (protos.out_of c.args.place (length c.args.made.now.entities) now)))) (sym is0)
    ∙ on (answered (told_of c.args.around.now)) (spec.parameters (context_of c.args.around.now) c.args.place (seen.parameters_of c.args.list.now) (record c.args.made.now { names = c.enter.new.self })) (λ x now. gives x (protos.out_of c.args.place (length c.args.made.now.entities) now)) (c.in-Ok-parameters.done) (c.parameters.new.made) c.in-Ok-parameters.ensures
    ∙ ap (λ v. Ends (c.in-Ok-parameters.done, v)) (sym last)

pub naming::parameters-returns-in-NoParameters : goal.naming::parameters-returns-in-NoParameters
naming::parameters-returns-in-NoParameters t c =
    ap (λ x. run_by (answered (told_of c.args.around.now)) (spec.parameters (context_of c.args.around.now) c.args.place x c.args.made.now)) (layers.parameters_no_parameters c.args.list.now c.in-NoParameters.is)
    ∙ ap (λ ps. Ends (step.Function ps proto.Old, c.args.made.now)) (sym c.of.ensures)

pub naming::parameters-returns-in-Ok : goal.naming::parameters-returns-in-Ok
naming::parameters-returns-in-Ok t c =
    let last : c.leave_out.new.made ≡ left_out (codes "identifier list") c.in-Names.first c.args.made.now = search rules in
    ap (λ x. run_by (answered (told_of c.args.around.now)) (spec.parameters (context_of c.args.around.now) c.args.place x c.args.made.now)) (layers.parameters_names c.args.list.now c.in-Names.first c.in-Names.field-1 c.in-Names.is)
    ∙ ap (λ m. Ends (step.Bad, m)) (sym last)

pub naming::group-returns-in-NoGroup : goal.naming::group-returns-in-NoGroup
naming::group-returns-in-NoGroup t c =
    ap (λ x. run_by (answered (told_of c.args.around.now)) (spec.grouping (context_of c.args.around.now) c.args.place x c.args.made.now)) (layers.group_no_group c.args.group.now c.in-NoGroup.is)
    ∙ ap (λ ss. Ends (ss, c.args.made.now)) (sym c.new.ensures)

pub naming::group-returns-in-Named : goal.naming::group-returns-in-Named
naming::group-returns-in-Named t c =
    ap (λ x. run_by (answered (told_of c.args.around.now)) (spec.grouping (context_of c.args.around.now) c.args.place x c.args.made.now)) (layers.group_named c.args.group.now c.in-Named.field-0 c.in-Named.is)
    ∙ ap (λ ss. Ends (ss, c.args.made.now)) (sym c.new-in-Named.ensures)

pub unary::prefix_waits-returns-in-Ok : goal.unary::prefix_waits-returns-in-Ok
unary::prefix_waits-returns-in-Ok t c =
    let last : waits.awaited c.operator_waits.new.place c.operator_waits.new.waiting ≡ waits.awaited (spec.behind_prefix (context_of c.args.around.now) c.in-Operator.at c.args.place.now) (waits.operator c.in-Operator.at ∷ c.args.waiting.now) = search rules in
    ap (λ x. run_by (answered (told_of c.args.around.now)) (waits.await (context_of c.args.around.now) c.args.place.now x c.args.waiting.now c.args.made.now)) (layers.prefix_operator c.args.prefix.now c.in-Operator.at c.in-Operator.is)
    ∙ ap (λ a. Ends (a, c.args.made.now)) (sym last)

pub braces::designator-returns-in-Ok : goal.braces::designator-returns-in-Ok
braces::designator-returns-in-Ok t c =
    let last : (c.designate_field.new.filling, c.designate_field.new.made) ≡ accesses.designated_field (context_of c.args.around.now) c.in-Field.dot c.in-Field.name c.args.filling.now c.args.made.now = search rules in
    ap (λ x. run_by (answered (told_of c.args.around.now)) (spec.designator_in (context_of c.args.around.now) c.args.place x c.args.filling.now c.args.made.now)) (layers.designator_field c.args.designator.now c.in-Field.dot c.in-Field.name c.in-Field.is)
    ∙ ap (λ r. Ends r) (sym last)

pub offsets::step-returns-in-Ok : goal.offsets::step-returns-in-Ok
offsets::step-returns-in-Ok t c =
    let last : (c.by_name.new.way, c.by_name.new.made) ≡ ways.by_name (context_of c.args.around.now) c.in-Member.name c.args.way.now c.args.made.now = search rules in
    ap (λ x. run_by (answered (told_of c.args.around.now)) (spec.step_to (context_of c.args.around.now) c.args.place x c.args.way.now c.args.made.now)) (layers.suffix_member c.args.next.now c.in-Member.field-0 c.in-Member.name c.in-Member.is)
    ∙ ap (λ r. Ends r) (sym last)

pub offsets::step-returns-in-Call : goal.offsets::step-returns-in-Call
offsets::step-returns-in-Call t c =
    ap (λ x. run_by (answered (told_of c.args.around.now)) (spec.step_to (context_of c.args.around.now) c.args.place x c.args.way.now c.args.made.now)) (layers.suffix_call c.args.next.now c.in-Call.field-0 c.in-Call.field-1 c.in-Call.is)

pub offsets::step-returns-in-CallWith : goal.offsets::step-returns-in-CallWith
offsets::step-returns-in-CallWith t c =
    ap (λ x. run_by (answered (told_of c.args.around.now)) (spec.step_to (context_of c.args.around.now) c.args.place x c.args.way.now c.args.made.now)) (layers.suffix_call_with c.args.next.now c.in-CallWith.field-0 c.in-CallWith.field-1 c.in-CallWith.field-2 c.in-CallWith.field-3 c.in-CallWith.is)

pub offsets::step-returns-in-Step : goal.offsets::step-returns-in-Step
offsets::step-returns-in-Step t c =
    ap (λ x. run_by (answered (told_of c.args.around.now)) (spec.step_to (context_of c.args.around.now) c.args.place x c.args.way.now c.args.made.now)) (layers.suffix_step c.args.next.now c.in-Step.field-0 c.in-Step.is)

pub naming::entry-returns-in-Err : goal.naming::entry-returns-in-Err
naming::entry-returns-in-Err t c =
    let is0 : c.in_list-within.result ≡ protos.in_list c.args.place = search rules in
    stops_as (run_by (answered (told_of c.args.around.now)) (follow (spec.specifiers (context_of c.args.around.now) c.in_list-within.result (seen.specs_of (out-TypeName c.args.name.now).specs) specifiers.nothing c.args.made.now) (λ x now. follow (Gives (specifiers.settled (ends.specifiers_begin (seen.specs_of (out-TypeName c.args.name.now).specs)) x now)) (λ ty next. follow (spec.declarator (context_of c.args.around.now) c.in_list-within.result (seen.declarator_of (out-TypeName c.args.name.now).declarator) next) (λ ss last. follow (steps.derived (context_of c.args.around.now) (ends.place_of (seen.specs_of (out-TypeName c.args.name.now).specs) (seen.declarator_of (out-TypeName c.args.name.now).declarator)) true ss ty last) (λ t end. entering.entered (context_of c.args.around.now) c.args.place.defining x c.args.alone (ends.place_of (seen.specs_of (out-TypeName c.args.name.now).specs) (seen.declarator_of (out-TypeName c.args.name.now).declarator)) (ends.name_of (seen.declarator_of (out-TypeName c.args.name.now).declarator)) (parameters.bracket_quals ss) t end)))))) (run_by (answered (told_of c.args.around.now)) (spec.entry (context_of c.args.around.now) c.args.place (seen.type_of c.args.name.now) c.args.alone c.args.made.now)) c.in-Err.halt
    (sym (ap (λ x. run_by (answered (told_of c.args.around.now)) (spec.entry (context_of c.args.around.now) c.args.place x c.args.alone c.args.made.now)) (layers.type_name_is c.args.name.now)
    ∙ ap (λ v. run_by (answered (told_of c.args.around.now)) (follow (spec.specifiers (context_of c.args.around.now) v (seen.specs_of (out-TypeName c.args.name.now).specs) specifiers.nothing c.args.made.now) (λ g mid. follow (Gives (specifiers.settled (ends.specifiers_begin (seen.specs_of (out-TypeName c.args.name.now).specs)) g mid)) (λ ty next. follow (spec.declarator (context_of c.args.around.now) v (seen.declarator_of (out-TypeName c.args.name.now).declarator) next) (λ ss last. follow (steps.derived (context_of c.args.around.now) (ends.place_of (seen.specs_of (out-TypeName c.args.name.now).specs) (seen.declarator_of (out-TypeName c.args.name.now).declarator)) true ss ty last) (λ t end. entering.entered (context_of c.args.around.now) c.args.place.defining g c.args.alone (ends.place_of (seen.specs_of (out-TypeName c.args.name.now).specs) (seen.declarator_of (out-TypeName c.args.name.now).declarator)) (ends.name_of (seen.declarator_of (out-TypeName c.args.name.now).declarator)) (parameters.bracket_quals ss) t end)))))) (sym is0)))
    (off (answered (told_of c.args.around.now)) (spec.specifiers (context_of c.args.around.now) c.in_list-within.result (seen.specs_of (out-TypeName c.args.name.now).specs) specifiers.nothing c.args.made.now) (λ x now. follow (Gives (specifiers.settled (ends.specifiers_begin (seen.specs_of (out-TypeName c.args.name.now).specs)) x now)) (λ ty next. follow (spec.declarator (context_of c.args.around.now) c.in_list-within.result (seen.declarator_of (out-TypeName c.args.name.now).declarator) next) (λ ss last. follow (steps.derived (context_of c.args.around.now) (ends.place_of (seen.specs_of (out-TypeName c.args.name.now).specs) (seen.declarator_of (out-TypeName c.args.name.now).declarator)) true ss ty last) (λ t end. entering.entered (context_of c.args.around.now) c.args.place.defining x c.args.alone (ends.place_of (seen.specs_of (out-TypeName c.args.name.now).specs) (seen.declarator_of (out-TypeName c.args.name.now).declarator)) (ends.name_of (seen.declarator_of (out-TypeName c.args.name.now).declarator)) (parameters.bracket_quals ss) t end)))) c.in-Err.halt c.in-Err.ensures)

pub naming::entry-returns-in-Err-declarator : goal.naming::entry-returns-in-Err-declarator
naming::entry-returns-in-Err-declarator t c =
    let is0 : c.in_list-within.result ≡ protos.in_list c.args.place = search rules in
    let is2 : (c.in-Ok-settled.base, c.settled.new.made) ≡ specifiers.settled (ends.specifiers_begin (seen.specs_of (out-TypeName c.args.name.now).specs)) c.in-Ok.done c.specifiers.new.made = search rules in
    stops_as (run_by (answered (told_of c.args.around.now)) (follow (spec.declarator (context_of c.args.around.now) c.in_list-within.result (seen.declarator_of (out-TypeName c.args.name.now).declarator) c.settled.new.made) (λ x now. follow (steps.derived (context_of c.args.around.now) (ends.place_of (seen.specs_of (out-TypeName c.args.name.now).specs) (seen.declarator_of (out-TypeName c.args.name.now).declarator)) true x c.in-Ok-settled.base now) (λ t end. entering.entered (context_of c.args.around.now) c.args.place.defining c.in-Ok.done c.args.alone (ends.place_of (seen.specs_of (out-TypeName c.args.name.now).specs) (seen.declarator_of (out-TypeName c.args.name.now).declarator)) (ends.name_of (seen.declarator_of (out-TypeName c.args.name.now).declarator)) (parameters.bracket_quals x) t end)))) (run_by (answered (told_of c.args.around.now)) (spec.entry (context_of c.args.around.now) c.args.place (seen.type_of c.args.name.now) c.args.alone c.args.made.now)) c.in-Err-declarator.halt
    (sym (ap (λ x. run_by (answered (told_of c.args.around.now)) (spec.entry (context_of c.args.around.now) c.args.place x c.args.alone c.args.made.now)) (layers.type_name_is c.args.name.now)
    ∙ ap (λ v. run_by (answered (told_of c.args.around.now)) (follow (spec.specifiers (context_of c.args.around.now) v (seen.specs_of (out-TypeName c.args.name.now).specs) specifiers.nothing c.args.made.now) (λ g mid. follow (Gives (specifiers.settled (ends.specifiers_begin (seen.specs_of (out-TypeName c.args.name.now).specs)) g mid)) (λ ty next. follow (spec.declarator (context_of c.args.around.now) v (seen.declarator_of (out-TypeName c.args.name.now).declarator) next) (λ ss last. follow (steps.derived (context_of c.args.around.now) (ends.place_of (seen.specs_of (out-TypeName c.args.name.now).specs) (seen.declarator_of (out-TypeName c.args.name.now).declarator)) true ss ty last) (λ t end. entering.entered (context_of c.args.around.now) c.args.place.defining g c.args.alone (ends.place_of (seen.specs_of (out-TypeName c.args.name.now).specs) (seen.declarator_of (out-TypeName c.args.name.now).declarator)) (ends.name_of (seen.declarator_of (out-TypeName c.args.name.now).declarator)) (parameters.bracket_quals ss) t end)))))) (sym is0)
    ∙ on (answered (told_of c.args.around.now)) (spec.specifiers (context_of c.args.around.now) c.in_list-within.result (seen.specs_of (out-TypeName c.args.name.now).specs) specifiers.nothing c.args.made.now) (λ x now. follow (Gives (specifiers.settled (ends.specifiers_begin (seen.specs_of (out-TypeName c.args.name.now).specs)) x now)) (λ ty next. follow (spec.declarator (context_of c.args.around.now) c.in_list-within.result (seen.declarator_of (out-TypeName c.args.name.now).declarator) next) (λ ss last. follow (steps.derived (context_of c.args.around.now) (ends.place_of (seen.specs_of (out-TypeName c.args.name.now).specs) (seen.declarator_of (out-TypeName c.args.name.now).declarator)) true ss ty last) (λ t end. entering.entered (context_of c.args.around.now) c.args.place.defining x c.args.alone (ends.place_of (seen.specs_of (out-TypeName c.args.name.now).specs) (seen.declarator_of (out-TypeName c.args.name.now).declarator)) (ends.name_of (seen.declarator_of (out-TypeName c.args.name.now).declarator)) (parameters.bracket_quals ss) t end)))) (c.in-Ok.done) (c.specifiers.new.made) c.in-Ok.ensures
    ∙ ap (λ p. run_by (answered (told_of c.args.around.now)) (follow (spec.declarator (context_of c.args.around.now) c.in_list-within.result (seen.declarator_of (out-TypeName c.args.name.now).declarator) p.1) (λ ss last. follow (steps.derived (context_of c.args.around.now) (ends.place_of (seen.specs_of (out-TypeName c.args.name.now).specs) (seen.declarator_of (out-TypeName c.args.name.now).declarator)) true ss p.0 last) (λ t end. entering.entered (context_of c.args.around.now) c.args.place.defining c.in-Ok.done c.args.alone (ends.place_of (seen.specs_of (out-TypeName c.args.name.now).specs) (seen.declarator_of (out-TypeName c.args.name.now).declarator)) (ends.name_of (seen.declarator_of (out-TypeName c.args.name.now).declarator)) (parameters.bracket_quals ss) t end)))) (sym is2)))
    (off (answered (told_of c.args.around.now)) (spec.declarator (context_of c.args.around.now) c.in_list-within.result (seen.declarator_of (out-TypeName c.args.name.now).declarator) c.settled.new.made) (λ x now. follow (steps.derived (context_of c.args.around.now) (ends.place_of (seen.specs_of (out-TypeName c.args.name.now).specs) (seen.declarator_of (out-TypeName c.args.name.now).declarator)) true x c.in-Ok-settled.base now) (λ t end. entering.entered (context_of c.args.around.now) c.args.place.defining c.in-Ok.done c.args.alone (ends.place_of (seen.specs_of (out-TypeName c.args.name.now).specs) (seen.declarator_of (out-TypeName c.args.name.now).declarator)) (ends.name_of (seen.declarator_of (out-TypeName c.args.name.now).declarator)) (parameters.bracket_quals x) t end)) c.in-Err-declarator.halt c.in-Err-declarator.ensures)

pub naming::entry-returns-in-Err-derived : goal.naming::entry-returns-in-Err-derived
naming::entry-returns-in-Err-derived t c =
    let is0 : c.in_list-within.result ≡ protos.in_list c.args.place = search rules in
    let is2 : (c.in-Ok-settled.base, c.settled.new.made) ≡ specifiers.settled (ends.specifiers_begin (seen.specs_of (out-TypeName c.args.name.now).specs)) c.in-Ok.done c.specifiers.new.made = search rules in
    let is4 : c.place_of-at.result ≡ (ends.place_of (seen.specs_of (out-TypeName c.args.name.now).specs) (seen.declarator_of (out-TypeName c.args.name.now).declarator)) = search rules in
    let is5 : c.name_of-own.result ≡ ends.name_of (seen.declarator_of (out-TypeName c.args.name.now).declarator) = search rules in
    let is6 : c.quals_of-quals.result ≡ parameters.bracket_quals c.in-Ok-declarator.done = search rules in
    stops_as (run_by (answered (told_of c.args.around.now)) (follow (steps.derived (context_of c.args.around.now) c.place_of-at.result true c.in-Ok-declarator.done c.in-Ok-settled.base c.declarator.new.made) (λ x now. entering.entered (context_of c.args.around.now) c.args.place.defining c.in-Ok.done c.args.alone c.place_of-at.result c.name_of-own.result c.quals_of-quals.result x now))) (run_by (answered (told_of c.args.around.now)) (spec.entry (context_of c.args.around.now) c.args.place (seen.type_of c.args.name.now) c.args.alone c.args.made.now)) c.in-Err-derived.halt
    (sym (ap (λ x. run_by (answered (told_of c.args.around.now)) (spec.entry (context_of c.args.around.now) c.args.place x c.args.alone c.args.made.now)) (layers.type_name_is c.args.name.now)
    ∙ ap (λ v. run_by (answered (told_of c.args.around.now)) (follow (spec.specifiers (context_of c.args.around.now) v (seen.specs_of (out-TypeName c.args.name.now).specs) specifiers.nothing c.args.made.now) (λ g mid. follow (Gives (specifiers.settled (ends.specifiers_begin (seen.specs_of (out-TypeName c.args.name.now).specs)) g mid)) (λ ty next. follow (spec.declarator (context_of c.args.around.now) v (seen.declarator_of (out-TypeName c.args.name.now).declarator) next) (λ ss last. follow (steps.derived (context_of c.args.around.now) (ends.place_of (seen.specs_of (out-TypeName c.args.name.now).specs) (seen.declarator_of (out-TypeName c.args.name.now).declarator)) true ss ty last) (λ t end. entering.entered (context_of c.args.around.now) c.args.place.defining g c.args.alone (ends.place_of (seen.specs_of (out-TypeName c.args.name.now).specs) (seen.declarator_of (out-TypeName c.args.name.now).declarator)) (ends.name_of (seen.declarator_of (out-TypeName c.args.name.now).declarator)) (parameters.bracket_quals ss) t end)))))) (sym is0)
    ∙ on (answered (told_of c.args.around.now)) (spec.specifiers (context_of c.args.around.now) c.in_list-within.result (seen.specs_of (out-TypeName c.args.name.now).specs) specifiers.nothing c.args.made.now) (λ x now. follow (Gives (specifiers.settled (ends.specifiers_begin (seen.specs_of (out-TypeName c.args.name.now).specs)) x now)) (λ ty next. follow (spec.declarator (context_of c.args.around.now) c.in_list-within.result (seen.declarator_of (out-TypeName c.args.name.now).declarator) next) (λ ss last. follow (steps.derived (context_of c.args.around.now) (ends.place_of (seen.specs_of (out-TypeName c.args.name.now).specs) (seen.declarator_of (out-TypeName c.args.name.now).declarator)) true ss ty last) (λ t end. entering.entered (context_of c.args.around.now) c.args.place.defining x c.args.alone (ends.place_of (seen.specs_of (out-TypeName c.args.name.now).specs) (seen.declarator_of (out-TypeName c.args.name.now).declarator)) (ends.name_of (seen.declarator_of (out-TypeName c.args.name.now).declarator)) (parameters.bracket_quals ss) t end)))) (c.in-Ok.done) (c.specifiers.new.made) c.in-Ok.ensures
    ∙ ap (λ p. run_by (answered (told_of c.args.around.now)) (follow (spec.declarator (context_of c.args.around.now) c.in_list-within.result (seen.declarator_of (out-TypeName c.args.name.now).declarator) p.1) (λ ss last. follow (steps.derived (context_of c.args.around.now) (ends.place_of (seen.specs_of (out-TypeName c.args.name.now).specs) (seen.declarator_of (out-TypeName c.args.name.now).declarator)) true ss p.0 last) (λ t end. entering.entered (context_of c.args.around.now) c.args.place.defining c.in-Ok.done c.args.alone (ends.place_of (seen.specs_of (out-TypeName c.args.name.now).specs) (seen.declarator_of (out-TypeName c.args.name.now).declarator)) (ends.name_of (seen.declarator_of (out-TypeName c.args.name.now).declarator)) (parameters.bracket_quals ss) t end)))) (sym is2)
    ∙ on (answered (told_of c.args.around.now)) (spec.declarator (context_of c.args.around.now) c.in_list-within.result (seen.declarator_of (out-TypeName c.args.name.now).declarator) c.settled.new.made) (λ x now. follow (steps.derived (context_of c.args.around.now) (ends.place_of (seen.specs_of (out-TypeName c.args.name.now).specs) (seen.declarator_of (out-TypeName c.args.name.now).declarator)) true x c.in-Ok-settled.base now) (λ t end. entering.entered (context_of c.args.around.now) c.args.place.defining c.in-Ok.done c.args.alone (ends.place_of (seen.specs_of (out-TypeName c.args.name.now).specs) (seen.declarator_of (out-TypeName c.args.name.now).declarator)) (ends.name_of (seen.declarator_of (out-TypeName c.args.name.now).declarator)) (parameters.bracket_quals x) t end)) (c.in-Ok-declarator.done) (c.declarator.new.made) c.in-Ok-declarator.ensures
    ∙ ap (λ v. run_by (answered (told_of c.args.around.now)) (follow (steps.derived (context_of c.args.around.now) v true c.in-Ok-declarator.done c.in-Ok-settled.base c.declarator.new.made) (λ t end. entering.entered (context_of c.args.around.now) c.args.place.defining c.in-Ok.done c.args.alone v (ends.name_of (seen.declarator_of (out-TypeName c.args.name.now).declarator)) (parameters.bracket_quals c.in-Ok-declarator.done) t end))) (sym is4)
    ∙ ap (λ v. run_by (answered (told_of c.args.around.now)) (follow (steps.derived (context_of c.args.around.now) c.place_of-at.result true c.in-Ok-declarator.done c.in-Ok-settled.base c.declarator.new.made) (λ t end. entering.entered (context_of c.args.around.now) c.args.place.defining c.in-Ok.done c.args.alone c.place_of-at.result v (parameters.bracket_quals c.in-Ok-declarator.done) t end))) (sym is5)
    ∙ ap (λ v. run_by (answered (told_of c.args.around.now)) (follow (steps.derived (context_of c.args.around.now) c.place_of-at.result true c.in-Ok-declarator.done c.in-Ok-settled.base c.declarator.new.made) (λ t end. entering.entered (context_of c.args.around.now) c.args.place.defining c.in-Ok.done c.args.alone c.place_of-at.result c.name_of-own.result v t end))) (sym is6)))
    (off (answered (told_of c.args.around.now)) (steps.derived (context_of c.args.around.now) c.place_of-at.result true c.in-Ok-declarator.done c.in-Ok-settled.base c.declarator.new.made) (λ x now. entering.entered (context_of c.args.around.now) c.args.place.defining c.in-Ok.done c.args.alone c.place_of-at.result c.name_of-own.result c.quals_of-quals.result x now) c.in-Err-derived.halt c.in-Err-derived.ensures)

pub naming::entry-returns : goal.naming::entry-returns
naming::entry-returns t c =
    let is0 : c.in_list-within.result ≡ protos.in_list c.args.place = search rules in
    let is2 : (c.in-Ok-settled.base, c.settled.new.made) ≡ specifiers.settled (ends.specifiers_begin (seen.specs_of (out-TypeName c.args.name.now).specs)) c.in-Ok.done c.specifiers.new.made = search rules in
    let is4 : c.place_of-at.result ≡ (ends.place_of (seen.specs_of (out-TypeName c.args.name.now).specs) (seen.declarator_of (out-TypeName c.args.name.now).declarator)) = search rules in
    let is5 : c.name_of-own.result ≡ ends.name_of (seen.declarator_of (out-TypeName c.args.name.now).declarator) = search rules in
    let is6 : c.quals_of-quals.result ≡ parameters.bracket_quals c.in-Ok-declarator.done = search rules in
    comes_as (told_of c.args.around.now) (spec.entry (context_of c.args.around.now) c.args.place (seen.type_of c.args.name.now) c.args.alone c.args.made.now) (entering.entered (context_of c.args.around.now) c.args.place.defining c.in-Ok.done c.args.alone c.place_of-at.result c.name_of-own.result c.quals_of-quals.result c.in-Ok-derived.done c.derived.new.made) (λ t. t) c.enter-done.result c.enter-done.new.made
    (ap (λ x. run_by (answered (told_of c.args.around.now)) (spec.entry (context_of c.args.around.now) c.args.place x c.args.alone c.args.made.now)) (layers.type_name_is c.args.name.now)
    ∙ ap (λ v. run_by (answered (told_of c.args.around.now)) (follow (spec.specifiers (context_of c.args.around.now) v (seen.specs_of (out-TypeName c.args.name.now).specs) specifiers.nothing c.args.made.now) (λ g mid. follow (Gives (specifiers.settled (ends.specifiers_begin (seen.specs_of (out-TypeName c.args.name.now).specs)) g mid)) (λ ty next. follow (spec.declarator (context_of c.args.around.now) v (seen.declarator_of (out-TypeName c.args.name.now).declarator) next) (λ ss last. follow (steps.derived (context_of c.args.around.now) (ends.place_of (seen.specs_of (out-TypeName c.args.name.now).specs) (seen.declarator_of (out-TypeName c.args.name.now).declarator)) true ss ty last) (λ t end. entering.entered (context_of c.args.around.now) c.args.place.defining g c.args.alone (ends.place_of (seen.specs_of (out-TypeName c.args.name.now).specs) (seen.declarator_of (out-TypeName c.args.name.now).declarator)) (ends.name_of (seen.declarator_of (out-TypeName c.args.name.now).declarator)) (parameters.bracket_quals ss) t end)))))) (sym is0)
    ∙ on (answered (told_of c.args.around.now)) (spec.specifiers (context_of c.args.around.now) c.in_list-within.result (seen.specs_of (out-TypeName c.args.name.now).specs) specifiers.nothing c.args.made.now) (λ x now. follow (Gives (specifiers.settled (ends.specifiers_begin (seen.specs_of (out-TypeName c.args.name.now).specs)) x now)) (λ ty next. follow (spec.declarator (context_of c.args.around.now) c.in_list-within.result (seen.declarator_of (out-TypeName c.args.name.now).declarator) next) (λ ss last. follow (steps.derived (context_of c.args.around.now) (ends.place_of (seen.specs_of (out-TypeName c.args.name.now).specs) (seen.declarator_of (out-TypeName c.args.name.now).declarator)) true ss ty last) (λ t end. entering.entered (context_of c.args.around.now) c.args.place.defining x c.args.alone (ends.place_of (seen.specs_of (out-TypeName c.args.name.now).specs) (seen.declarator_of (out-TypeName c.args.name.now).declarator)) (ends.name_of (seen.declarator_of (out-TypeName c.args.name.now).declarator)) (parameters.bracket_quals ss) t end)))) (c.in-Ok.done) (c.specifiers.new.made) c.in-Ok.ensures
    ∙ ap (λ p. run_by (answered (told_of c.args.around.now)) (follow (spec.declarator (context_of c.args.around.now) c.in_list-within.result (seen.declarator_of (out-TypeName c.args.name.now).declarator) p.1) (λ ss last. follow (steps.derived (context_of c.args.around.now) (ends.place_of (seen.specs_of (out-TypeName c.args.name.now).specs) (seen.declarator_of (out-TypeName c.args.name.now).declarator)) true ss p.0 last) (λ t end. entering.entered (context_of c.args.around.now) c.args.place.defining c.in-Ok.done c.args.alone (ends.place_of (seen.specs_of (out-TypeName c.args.name.now).specs) (seen.declarator_of (out-TypeName c.args.name.now).declarator)) (ends.name_of (seen.declarator_of (out-TypeName c.args.name.now).declarator)) (parameters.bracket_quals ss) t end)))) (sym is2)
    ∙ on (answered (told_of c.args.around.now)) (spec.declarator (context_of c.args.around.now) c.in_list-within.result (seen.declarator_of (out-TypeName c.args.name.now).declarator) c.settled.new.made) (λ x now. follow (steps.derived (context_of c.args.around.now) (ends.place_of (seen.specs_of (out-TypeName c.args.name.now).specs) (seen.declarator_of (out-TypeName c.args.name.now).declarator)) true x c.in-Ok-settled.base now) (λ t end. entering.entered (context_of c.args.around.now) c.args.place.defining c.in-Ok.done c.args.alone (ends.place_of (seen.specs_of (out-TypeName c.args.name.now).specs) (seen.declarator_of (out-TypeName c.args.name.now).declarator)) (ends.name_of (seen.declarator_of (out-TypeName c.args.name.now).declarator)) (parameters.bracket_quals x) t end)) (c.in-Ok-declarator.done) (c.declarator.new.made) c.in-Ok-declarator.ensures
    ∙ ap (λ v. run_by (answered (told_of c.args.around.now)) (follow (steps.derived (context_of c.args.around.now) v true c.in-Ok-declarator.done c.in-Ok-settled.base c.declarator.new.made) (λ t end. entering.entered (context_of c.args.around.now) c.args.place.defining c.in-Ok.done c.args.alone v (ends.name_of (seen.declarator_of (out-TypeName c.args.name.now).declarator)) (parameters.bracket_quals c.in-Ok-declarator.done) t end))) (sym is4)
    ∙ ap (λ v. run_by (answered (told_of c.args.around.now)) (follow (steps.derived (context_of c.args.around.now) c.place_of-at.result true c.in-Ok-declarator.done c.in-Ok-settled.base c.declarator.new.made) (λ t end. entering.entered (context_of c.args.around.now) c.args.place.defining c.in-Ok.done c.args.alone c.place_of-at.result v (parameters.bracket_quals c.in-Ok-declarator.done) t end))) (sym is5)
    ∙ ap (λ v. run_by (answered (told_of c.args.around.now)) (follow (steps.derived (context_of c.args.around.now) c.place_of-at.result true c.in-Ok-declarator.done c.in-Ok-settled.base c.declarator.new.made) (λ t end. entering.entered (context_of c.args.around.now) c.args.place.defining c.in-Ok.done c.args.alone c.place_of-at.result c.name_of-own.result v t end))) (sym is6)
    ∙ on (answered (told_of c.args.around.now)) (steps.derived (context_of c.args.around.now) c.place_of-at.result true c.in-Ok-declarator.done c.in-Ok-settled.base c.declarator.new.made) (λ x now. entering.entered (context_of c.args.around.now) c.args.place.defining c.in-Ok.done c.args.alone c.place_of-at.result c.name_of-own.result c.quals_of-quals.result x now) (c.in-Ok-derived.done) (c.derived.new.made) c.in-Ok-derived.ensures)
    c.enter-done.ensures

pub bodies::aligned-returns-in-Err : goal.bodies::aligned-returns-in-Err
bodies::aligned-returns-in-Err t c =
    off (answered (told_of c.args.around.now)) (spec.judge (context_of c.args.around.now) c.args.place (seen.tree_of c.args.size.now) c.args.made.now) (λ x now. Gives (listed.with_size c.args.keyword (ends.first_of (seen.tree_of c.args.size.now)) x c.args.gathered.now now)) c.in-Err.halt c.in-Err.ensures

pub bodies::aligned-returns : goal.bodies::aligned-returns
bodies::aligned-returns t c =
    let last : (c.add_alignment.new.gathered, c.add_alignment.new.made) ≡ listed.with_size c.args.keyword (ends.first_of (seen.tree_of c.args.size.now)) c.in-Ok.done c.args.gathered.now c.judged.new.made = search rules in
    on (answered (told_of c.args.around.now)) (spec.judge (context_of c.args.around.now) c.args.place (seen.tree_of c.args.size.now) c.args.made.now) (λ x now. Gives (listed.with_size c.args.keyword (ends.first_of (seen.tree_of c.args.size.now)) x c.args.gathered.now now)) (c.in-Ok.done) (c.judged.new.made) c.in-Ok.ensures
    ∙ ap (λ r. Ends r) (sym last)

pub bodies::aligned_as-returns-in-Err : goal.bodies::aligned_as-returns-in-Err
bodies::aligned_as-returns-in-Err t c =
    off (answered (told_of c.args.around.now)) (spec.type_name (context_of c.args.around.now) c.args.place (seen.type_of c.args.name.now) c.args.made.now) (λ x now. listed.with_size_of (context_of c.args.around.now) c.args.keyword x c.args.gathered.now now) c.in-Err.halt c.in-Err.ensures

pub bodies::aligned_as-returns : goal.bodies::aligned_as-returns
bodies::aligned_as-returns t c =
    comes_as (told_of c.args.around.now) (spec.specifier (context_of c.args.around.now) c.args.place (trees.Aligned_as_of c.args.keyword 0 (seen.type_of c.args.name.now) 0) c.args.gathered.now c.args.made.now) (listed.with_size_of (context_of c.args.around.now) c.args.keyword c.in-Ok.done c.args.gathered.now c.type_name.new.made) (λ _. c.add_alignment_of.new.gathered) c.add_alignment_of.result c.add_alignment_of.new.made
    (on (answered (told_of c.args.around.now)) (spec.type_name (context_of c.args.around.now) c.args.place (seen.type_of c.args.name.now) c.args.made.now) (λ x now. listed.with_size_of (context_of c.args.around.now) c.args.keyword x c.args.gathered.now now) (c.in-Ok.done) (c.type_name.new.made) c.in-Ok.ensures)
    c.add_alignment_of.ensures

pub bodies::structure-returns-in-Err : goal.bodies::structure-returns-in-Err
bodies::structure-returns-in-Err t c =
    off (answered (told_of c.args.around.now)) (bodies.begun_body (context_of c.args.around.now) c.args.keyword c.args.tag c.args.made.now) (λ x now. follow (spec.members (context_of c.args.around.now) c.args.place (trees.members (seen.members_of c.args.list.now.items) trees.No_members) (members_of.none_gathered x.kind) now) (λ s next. Gives (listed.behind_members (context_of c.args.around.now) x s c.args.gathered.now next))) c.in-Err.halt c.in-Err.ensures

pub bodies::structure-returns-in-Err-members : goal.bodies::structure-returns-in-Err-members
bodies::structure-returns-in-Err-members t c =
    let is1 : c.new-fields.result ≡ members_of.none_gathered c.in-Ok.done.kind = search rules in
    stops_as (run_by (answered (told_of c.args.around.now)) (follow (spec.members (context_of c.args.around.now) c.args.place (trees.members (seen.members_of c.args.list.now.items) trees.No_members) c.new-fields.result c.begin_body.new.made) (λ x now. Gives (listed.behind_members (context_of c.args.around.now) c.in-Ok.done x c.args.gathered.now now)))) (run_by (answered (told_of c.args.around.now)) (spec.specifier (context_of c.args.around.now) c.args.place (trees.Members_of c.args.keyword c.args.tag 0 (trees.members (seen.members_of c.args.list.now.items) trees.No_members) 0) c.args.gathered.now c.args.made.now)) c.in-Err-members.halt
    (sym (on (answered (told_of c.args.around.now)) (bodies.begun_body (context_of c.args.around.now) c.args.keyword c.args.tag c.args.made.now) (λ x now. follow (spec.members (context_of c.args.around.now) c.args.place (trees.members (seen.members_of c.args.list.now.items) trees.No_members) (members_of.none_gathered x.kind) now) (λ s next. Gives (listed.behind_members (context_of c.args.around.now) x s c.args.gathered.now next))) (c.in-Ok.done) (c.begin_body.new.made) c.in-Ok.ensures
    ∙ ap (λ v. run_by (answered (told_of c.args.around.now)) (follow (spec.members (context_of c.args.around.now) c.args.place (trees.members (seen.members_of c.args.list.now.items) trees.No_members) v c.begin_body.new.made) (λ s next. Gives (listed.behind_members (context_of c.args.around.now) c.in-Ok.done s c.args.gathered.now next)))) (sym is1)))
    (off (answered (told_of c.args.around.now)) (spec.members (context_of c.args.around.now) c.args.place (trees.members (seen.members_of c.args.list.now.items) trees.No_members) c.new-fields.result c.begin_body.new.made) (λ x now. Gives (listed.behind_members (context_of c.args.around.now) c.in-Ok.done x c.args.gathered.now now)) c.in-Err-members.halt c.in-Err-members.ensures)

pub bodies::structure-returns : goal.bodies::structure-returns
bodies::structure-returns t c =
    let is1 : c.new-fields.result ≡ members_of.none_gathered c.in-Ok.done.kind = search rules in
    let last : (c.add_members.new.gathered, c.add_members.new.made) ≡ listed.behind_members (context_of c.args.around.now) c.in-Ok.done c.members.new.fields c.args.gathered.now c.members.new.made = search rules in
    on (answered (told_of c.args.around.now)) (bodies.begun_body (context_of c.args.around.now) c.args.keyword c.args.tag c.args.made.now) (λ x now. follow (spec.members (context_of c.args.around.now) c.args.place (trees.members (seen.members_of c.args.list.now.items) trees.No_members) (members_of.none_gathered x.kind) now) (λ s next. Gives (listed.behind_members (context_of c.args.around.now) x s c.args.gathered.now next))) (c.in-Ok.done) (c.begin_body.new.made) c.in-Ok.ensures
    ∙ ap (λ v. run_by (answered (told_of c.args.around.now)) (follow (spec.members (context_of c.args.around.now) c.args.place (trees.members (seen.members_of c.args.list.now.items) trees.No_members) v c.begin_body.new.made) (λ s next. Gives (listed.behind_members (context_of c.args.around.now) c.in-Ok.done s c.args.gathered.now next)))) (sym is1)
    ∙ on (answered (told_of c.args.around.now)) (spec.members (context_of c.args.around.now) c.args.place (trees.members (seen.members_of c.args.list.now.items) trees.No_members) c.new-fields.result c.begin_body.new.made) (λ x now. Gives (listed.behind_members (context_of c.args.around.now) c.in-Ok.done x c.args.gathered.now now)) (c.members.new.fields) (c.members.new.made) c.in-Ok-members.ensures
    ∙ ap (λ r. Ends r) (sym last)

pub bodies::based-returns-in-Err : goal.bodies::based-returns-in-Err
bodies::based-returns-in-Err t c =
    off (answered (told_of c.args.around.now)) (spec.specifiers (context_of c.args.around.now) c.args.place (seen.specs_of c.args.specs.now) specifiers.nothing c.args.made.now) (λ x now. follow (Gives (specifiers.settled (ends.specifiers_begin (seen.specs_of c.args.specs.now)) x now)) (λ ty. gives (x, ty))) c.in-Err.halt c.in-Err.ensures

pub bodies::based-returns : goal.bodies::based-returns
bodies::based-returns t c =
    let is1 : (c.in-Ok-settled.typed, c.settled.new.made) ≡ specifiers.settled (ends.specifiers_begin (seen.specs_of c.args.specs.now)) c.in-Ok.done c.specifiers.new.made = search rules in
    on (answered (told_of c.args.around.now)) (spec.specifiers (context_of c.args.around.now) c.args.place (seen.specs_of c.args.specs.now) specifiers.nothing c.args.made.now) (λ x now. follow (Gives (specifiers.settled (ends.specifiers_begin (seen.specs_of c.args.specs.now)) x now)) (λ ty. gives (x, ty))) (c.in-Ok.done) (c.specifiers.new.made) c.in-Ok.ensures
    ∙ ap (λ p. run_by (answered (told_of c.args.around.now)) (gives (c.in-Ok.done, p.0) p.1)) (sym is1)

pub bodies::member-returns-in-Bare : goal.bodies::member-returns-in-Bare
bodies::member-returns-in-Bare t c =
    subst (λ x. Comes (told_of c.args.around.now) (spec.member (context_of c.args.around.now) c.args.place x c.args.fields.now c.args.made.now) (λ _. c.bare.new.fields) c.bare.result c.bare.new.made) (sym (layers.member_bare c.args.member.now c.in-Bare.specs c.in-Bare.field-1 c.in-Bare.is))
    c.bare.ensures

pub bodies::member-returns-in-Err : goal.bodies::member-returns-in-Err
bodies::member-returns-in-Err t c =
    stops_as (run_by (answered (told_of c.args.around.now)) (follow (spec.based (context_of c.args.around.now) c.args.place (seen.specs_of c.in-Fields.specs) c.args.made.now) (λ x now. follow (spec.field (context_of c.args.around.now) c.args.place (ends.specifiers_begin (seen.specs_of c.in-Fields.specs)) x.0 x.1 (seen.field_of c.in-Fields.first) c.args.fields.now now) (λ r next. spec.fields (context_of c.args.around.now) c.args.place (ends.specifiers_begin (seen.specs_of c.in-Fields.specs)) x.0 x.1 (trees.fields (seen.fields_of c.in-Fields.more.items) trees.No_fields) r next)))) (run_by (answered (told_of c.args.around.now)) (spec.member (context_of c.args.around.now) c.args.place (seen.member_of c.args.member.now) c.args.fields.now c.args.made.now)) c.in-Err.halt
    (sym (ap (λ x. run_by (answered (told_of c.args.around.now)) (spec.member (context_of c.args.around.now) c.args.place x c.args.fields.now c.args.made.now)) (layers.member_fields c.args.member.now c.in-Fields.specs c.in-Fields.first c.in-Fields.more c.in-Fields.field-3 c.in-Fields.is)))
    (off (answered (told_of c.args.around.now)) (spec.based (context_of c.args.around.now) c.args.place (seen.specs_of c.in-Fields.specs) c.args.made.now) (λ x now. follow (spec.field (context_of c.args.around.now) c.args.place (ends.specifiers_begin (seen.specs_of c.in-Fields.specs)) x.0 x.1 (seen.field_of c.in-Fields.first) c.args.fields.now now) (λ r next. spec.fields (context_of c.args.around.now) c.args.place (ends.specifiers_begin (seen.specs_of c.in-Fields.specs)) x.0 x.1 (trees.fields (seen.fields_of c.in-Fields.more.items) trees.No_fields) r next)) c.in-Err.halt c.in-Err.ensures)

pub bodies::member-returns-in-Err-field : goal.bodies::member-returns-in-Err-field
bodies::member-returns-in-Err-field t c =
    let is1 : c.specs_begin-at.result ≡ ends.specifiers_begin (seen.specs_of c.in-Fields.specs) = search rules in
    stops_as (run_by (answered (told_of c.args.around.now)) (follow (spec.field (context_of c.args.around.now) c.args.place c.specs_begin-at.result c.in-Ok.done.0 c.in-Ok.done.1 (seen.field_of c.in-Fields.first) c.args.fields.now c.based.new.made) (λ x now. spec.fields (context_of c.args.around.now) c.args.place c.specs_begin-at.result c.in-Ok.done.0 c.in-Ok.done.1 (trees.fields (seen.fields_of c.in-Fields.more.items) trees.No_fields) x now))) (run_by (answered (told_of c.args.around.now)) (spec.member (context_of c.args.around.now) c.args.place (seen.member_of c.args.member.now) c.args.fields.now c.args.made.now)) c.in-Err-field.halt
    (sym (ap (λ x. run_by (answered (told_of c.args.around.now)) (spec.member (context_of c.args.around.now) c.args.place x c.args.fields.now c.args.made.now)) (layers.member_fields c.args.member.now c.in-Fields.specs c.in-Fields.first c.in-Fields.more c.in-Fields.field-3 c.in-Fields.is)
    ∙ on (answered (told_of c.args.around.now)) (spec.based (context_of c.args.around.now) c.args.place (seen.specs_of c.in-Fields.specs) c.args.made.now) (λ x now. follow (spec.field (context_of c.args.around.now) c.args.place (ends.specifiers_begin (seen.specs_of c.in-Fields.specs)) x.0 x.1 (seen.field_of c.in-Fields.first) c.args.fields.now now) (λ r next. spec.fields (context_of c.args.around.now) c.args.place (ends.specifiers_begin (seen.specs_of c.in-Fields.specs)) x.0 x.1 (trees.fields (seen.fields_of c.in-Fields.more.items) trees.No_fields) r next)) (c.in-Ok.done) (c.based.new.made) c.in-Ok.ensures
    ∙ ap (λ v. run_by (answered (told_of c.args.around.now)) (follow (spec.field (context_of c.args.around.now) c.args.place v c.in-Ok.done.0 c.in-Ok.done.1 (seen.field_of c.in-Fields.first) c.args.fields.now c.based.new.made) (λ r next. spec.fields (context_of c.args.around.now) c.args.place v c.in-Ok.done.0 c.in-Ok.done.1 (trees.fields (seen.fields_of c.in-Fields.more.items) trees.No_fields) r next))) (sym is1)))
    (off (answered (told_of c.args.around.now)) (spec.field (context_of c.args.around.now) c.args.place c.specs_begin-at.result c.in-Ok.done.0 c.in-Ok.done.1 (seen.field_of c.in-Fields.first) c.args.fields.now c.based.new.made) (λ x now. spec.fields (context_of c.args.around.now) c.args.place c.specs_begin-at.result c.in-Ok.done.0 c.in-Ok.done.1 (trees.fields (seen.fields_of c.in-Fields.more.items) trees.No_fields) x now) c.in-Err-field.halt c.in-Err-field.ensures)

pub bodies::member-returns-in-Ok-field : goal.bodies::member-returns-in-Ok-field
bodies::member-returns-in-Ok-field t c =
    let is1 : c.specs_begin-at.result ≡ ends.specifiers_begin (seen.specs_of c.in-Fields.specs) = search rules in
    comes_as (told_of c.args.around.now) (spec.member (context_of c.args.around.now) c.args.place (seen.member_of c.args.member.now) c.args.fields.now c.args.made.now) (spec.fields (context_of c.args.around.now) c.args.place c.specs_begin-at.result c.in-Ok.done.0 c.in-Ok.done.1 (trees.fields (seen.fields_of c.in-Fields.more.items) trees.No_fields) c.field.new.fields c.field.new.made) (λ _. c.other_fields-done.new.fields) c.other_fields-done.result c.other_fields-done.new.made
    (ap (λ x. run_by (answered (told_of c.args.around.now)) (spec.member (context_of c.args.around.now) c.args.place x c.args.fields.now c.args.made.now)) (layers.member_fields c.args.member.now c.in-Fields.specs c.in-Fields.first c.in-Fields.more c.in-Fields.field-3 c.in-Fields.is)
    ∙ on (answered (told_of c.args.around.now)) (spec.based (context_of c.args.around.now) c.args.place (seen.specs_of c.in-Fields.specs) c.args.made.now) (λ x now. follow (spec.field (context_of c.args.around.now) c.args.place (ends.specifiers_begin (seen.specs_of c.in-Fields.specs)) x.0 x.1 (seen.field_of c.in-Fields.first) c.args.fields.now now) (λ r next. spec.fields (context_of c.args.around.now) c.args.place (ends.specifiers_begin (seen.specs_of c.in-Fields.specs)) x.0 x.1 (trees.fields (seen.fields_of c.in-Fields.more.items) trees.No_fields) r next)) (c.in-Ok.done) (c.based.new.made) c.in-Ok.ensures
    ∙ ap (λ v. run_by (answered (told_of c.args.around.now)) (follow (spec.field (context_of c.args.around.now) c.args.place v c.in-Ok.done.0 c.in-Ok.done.1 (seen.field_of c.in-Fields.first) c.args.fields.now c.based.new.made) (λ r next. spec.fields (context_of c.args.around.now) c.args.place v c.in-Ok.done.0 c.in-Ok.done.1 (trees.fields (seen.fields_of c.in-Fields.more.items) trees.No_fields) r next))) (sym is1)
    ∙ on (answered (told_of c.args.around.now)) (spec.field (context_of c.args.around.now) c.args.place c.specs_begin-at.result c.in-Ok.done.0 c.in-Ok.done.1 (seen.field_of c.in-Fields.first) c.args.fields.now c.based.new.made) (λ x now. spec.fields (context_of c.args.around.now) c.args.place c.specs_begin-at.result c.in-Ok.done.0 c.in-Ok.done.1 (trees.fields (seen.fields_of c.in-Fields.more.items) trees.No_fields) x now) (c.field.new.fields) (c.field.new.made) c.in-Ok-field.ensures)
    c.other_fields-done.ensures

pub bodies::member-returns-in-Asserted : goal.bodies::member-returns-in-Asserted
bodies::member-returns-in-Asserted t c =
    subst (λ x. Comes (told_of c.args.around.now) (spec.member (context_of c.args.around.now) c.args.place x c.args.fields.now c.args.made.now) (λ _. c.args.fields.now) c.asserted.result c.asserted.new.made) (sym (layers.member_asserted c.args.member.now c.in-Asserted.assertion c.in-Asserted.is))
    (leads_gives (told_of c.args.around.now) (spec.assertion (context_of c.args.around.now) c.args.place (seen.assertion_of c.in-Asserted.assertion) c.args.made.now) c.args.fields.now c.asserted.result c.asserted.new.made c.asserted.ensures)

pub bodies::bare-returns-in-Err : goal.bodies::bare-returns-in-Err
bodies::bare-returns-in-Err t c =
    off (answered (told_of c.args.around.now)) (spec.based (context_of c.args.around.now) c.args.place (seen.specs_of c.args.specs.now) c.args.made.now) (λ x now. fielding.bare (context_of c.args.around.now) x.0 (ends.specifiers_begin (seen.specs_of c.args.specs.now)) x.1 c.args.fields.now now) c.in-Err.halt c.in-Err.ensures

pub bodies::bare-returns : goal.bodies::bare-returns
bodies::bare-returns t c =
    let is1 : c.specs_begin.result ≡ ends.specifiers_begin (seen.specs_of c.args.specs.now) = search rules in
    comes_as (told_of c.args.around.now) (spec.member (context_of c.args.around.now) c.args.place (trees.Bare_of (seen.specs_of c.args.specs.now) 0) c.args.fields.now c.args.made.now) (fielding.bare (context_of c.args.around.now) c.in-Ok.done.0 c.specs_begin.result c.in-Ok.done.1 c.args.fields.now c.based.new.made) (λ _. c.add_bare-done.new.fields) c.add_bare-done.result c.add_bare-done.new.made
    (on (answered (told_of c.args.around.now)) (spec.based (context_of c.args.around.now) c.args.place (seen.specs_of c.args.specs.now) c.args.made.now) (λ x now. fielding.bare (context_of c.args.around.now) x.0 (ends.specifiers_begin (seen.specs_of c.args.specs.now)) x.1 c.args.fields.now now) (c.in-Ok.done) (c.based.new.made) c.in-Ok.ensures
    ∙ ap (λ v. run_by (answered (told_of c.args.around.now)) (fielding.bare (context_of c.args.around.now) c.in-Ok.done.0 v c.in-Ok.done.1 c.args.fields.now c.based.new.made)) (sym is1))
    c.add_bare-done.ensures

pub bodies::derived_by-returns-in-Err : goal.bodies::derived_by-returns-in-Err
bodies::derived_by-returns-in-Err t c =
    let is0 : c.in-Ok.base ≡ c.args.typed.now = search rules in
    stops_as (run_by (answered (told_of c.args.around.now)) (follow (spec.declarator (context_of c.args.around.now) c.args.place (seen.declarator_of c.args.next.now) c.args.made.now) (λ x now. steps.derived (context_of c.args.around.now) (ends.place_behind c.args.at (seen.declarator_of c.args.next.now)) false x c.in-Ok.base now))) (run_by (answered (told_of c.args.around.now)) (spec.derived_by (context_of c.args.around.now) c.args.place c.args.at c.args.typed.now (seen.declarator_of c.args.next.now) c.args.made.now)) c.in-Err.halt
    (sym (ap (λ v. run_by (answered (told_of c.args.around.now)) (follow (spec.declarator (context_of c.args.around.now) c.args.place (seen.declarator_of c.args.next.now) c.args.made.now) (λ ss. steps.derived (context_of c.args.around.now) (ends.place_behind c.args.at (seen.declarator_of c.args.next.now)) false ss v))) (sym is0)))
    (off (answered (told_of c.args.around.now)) (spec.declarator (context_of c.args.around.now) c.args.place (seen.declarator_of c.args.next.now) c.args.made.now) (λ x now. steps.derived (context_of c.args.around.now) (ends.place_behind c.args.at (seen.declarator_of c.args.next.now)) false x c.in-Ok.base now) c.in-Err.halt c.in-Err.ensures)

pub bodies::derived_by-returns : goal.bodies::derived_by-returns
bodies::derived_by-returns t c =
    let is0 : c.in-Ok.base ≡ c.args.typed.now = search rules in
    let is2 : c.place_behind-own.result ≡ ends.place_behind c.args.at (seen.declarator_of c.args.next.now) = search rules in
    comes_as (told_of c.args.around.now) (spec.derived_by (context_of c.args.around.now) c.args.place c.args.at c.args.typed.now (seen.declarator_of c.args.next.now) c.args.made.now) (steps.derived (context_of c.args.around.now) c.place_behind-own.result false c.in-Ok-declarator.done c.in-Ok.base c.declarator.new.made) (λ t. t) c.derived.result c.derived.new.made
    (ap (λ v. run_by (answered (told_of c.args.around.now)) (follow (spec.declarator (context_of c.args.around.now) c.args.place (seen.declarator_of c.args.next.now) c.args.made.now) (λ ss. steps.derived (context_of c.args.around.now) (ends.place_behind c.args.at (seen.declarator_of c.args.next.now)) false ss v))) (sym is0)
    ∙ on (answered (told_of c.args.around.now)) (spec.declarator (context_of c.args.around.now) c.args.place (seen.declarator_of c.args.next.now) c.args.made.now) (λ x now. steps.derived (context_of c.args.around.now) (ends.place_behind c.args.at (seen.declarator_of c.args.next.now)) false x c.in-Ok.base now) (c.in-Ok-declarator.done) (c.declarator.new.made) c.in-Ok-declarator.ensures
    ∙ ap (λ v. run_by (answered (told_of c.args.around.now)) (steps.derived (context_of c.args.around.now) v false c.in-Ok-declarator.done c.in-Ok.base c.declarator.new.made)) (sym is2))
    c.derived.ensures

pub bodies::field-returns-in-Err : goal.bodies::field-returns-in-Err
bodies::field-returns-in-Err t c =
    stops_as (run_by (answered (told_of c.args.around.now)) (follow (spec.derived_by (context_of c.args.around.now) c.args.place c.args.at c.args.base.now.1 (seen.declarator_of c.in-Declared.inner) c.args.made.now) (λ x now. fielding.declared (context_of c.args.around.now) c.args.base.now.0 (ends.place_behind c.args.at (seen.declarator_of c.in-Declared.inner)) (ends.name_of (seen.declarator_of c.in-Declared.inner)) x c.args.fields.now now))) (run_by (answered (told_of c.args.around.now)) (spec.field (context_of c.args.around.now) c.args.place c.args.at c.args.base.now.0 c.args.base.now.1 (seen.field_of c.args.field.now) c.args.fields.now c.args.made.now)) c.in-Err.halt
    (sym (ap (λ x. run_by (answered (told_of c.args.around.now)) (spec.field (context_of c.args.around.now) c.args.place c.args.at c.args.base.now.0 c.args.base.now.1 x c.args.fields.now c.args.made.now)) (layers.field_declared c.args.field.now c.in-Declared.inner c.in-Declared.is)))
    (off (answered (told_of c.args.around.now)) (spec.derived_by (context_of c.args.around.now) c.args.place c.args.at c.args.base.now.1 (seen.declarator_of c.in-Declared.inner) c.args.made.now) (λ x now. fielding.declared (context_of c.args.around.now) c.args.base.now.0 (ends.place_behind c.args.at (seen.declarator_of c.in-Declared.inner)) (ends.name_of (seen.declarator_of c.in-Declared.inner)) x c.args.fields.now now) c.in-Err.halt c.in-Err.ensures)

pub bodies::field-returns-in-Ok : goal.bodies::field-returns-in-Ok
bodies::field-returns-in-Ok t c =
    let is1 : c.place_behind-begins.result ≡ ends.place_behind c.args.at (seen.declarator_of c.in-Declared.inner) = search rules in
    let is2 : c.name_of-name.result ≡ ends.name_of (seen.declarator_of c.in-Declared.inner) = search rules in
    comes_as (told_of c.args.around.now) (spec.field (context_of c.args.around.now) c.args.place c.args.at c.args.base.now.0 c.args.base.now.1 (seen.field_of c.args.field.now) c.args.fields.now c.args.made.now) (fielding.declared (context_of c.args.around.now) c.args.base.now.0 c.place_behind-begins.result c.name_of-name.result c.in-Ok.done c.args.fields.now c.derived_by.new.made) (λ _. c.add_member-done.new.fields) c.add_member-done.result c.add_member-done.new.made
    (ap (λ x. run_by (answered (told_of c.args.around.now)) (spec.field (context_of c.args.around.now) c.args.place c.args.at c.args.base.now.0 c.args.base.now.1 x c.args.fields.now c.args.made.now)) (layers.field_declared c.args.field.now c.in-Declared.inner c.in-Declared.is)
    ∙ on (answered (told_of c.args.around.now)) (spec.derived_by (context_of c.args.around.now) c.args.place c.args.at c.args.base.now.1 (seen.declarator_of c.in-Declared.inner) c.args.made.now) (λ x now. fielding.declared (context_of c.args.around.now) c.args.base.now.0 (ends.place_behind c.args.at (seen.declarator_of c.in-Declared.inner)) (ends.name_of (seen.declarator_of c.in-Declared.inner)) x c.args.fields.now now) (c.in-Ok.done) (c.derived_by.new.made) c.in-Ok.ensures
    ∙ ap (λ v. run_by (answered (told_of c.args.around.now)) (fielding.declared (context_of c.args.around.now) c.args.base.now.0 v (ends.name_of (seen.declarator_of c.in-Declared.inner)) c.in-Ok.done c.args.fields.now c.derived_by.new.made)) (sym is1)
    ∙ ap (λ v. run_by (answered (told_of c.args.around.now)) (fielding.declared (context_of c.args.around.now) c.args.base.now.0 c.place_behind-begins.result v c.in-Ok.done c.args.fields.now c.derived_by.new.made)) (sym is2))
    c.add_member-done.ensures

pub bodies::field-returns-in-Err-derived_by : goal.bodies::field-returns-in-Err-derived_by
bodies::field-returns-in-Err-derived_by t c =
    stops_as (run_by (answered (told_of c.args.around.now)) (follow (spec.derived_by (context_of c.args.around.now) c.args.place c.args.at c.args.base.now.1 (seen.declarator_of c.in-Bits.inner) c.args.made.now) (λ x now. follow (spec.judge (context_of c.args.around.now) c.args.place (seen.tree_of c.in-Bits.width) now) (λ j next. fielding.bits (context_of c.args.around.now) c.args.base.now.0 (ends.place_behind c.args.at (seen.declarator_of c.in-Bits.inner)) (ends.name_of (seen.declarator_of c.in-Bits.inner)) x (ends.first_of (seen.tree_of c.in-Bits.width)) j c.args.fields.now next)))) (run_by (answered (told_of c.args.around.now)) (spec.field (context_of c.args.around.now) c.args.place c.args.at c.args.base.now.0 c.args.base.now.1 (seen.field_of c.args.field.now) c.args.fields.now c.args.made.now)) c.in-Err-derived_by.halt
    (sym (ap (λ x. run_by (answered (told_of c.args.around.now)) (spec.field (context_of c.args.around.now) c.args.place c.args.at c.args.base.now.0 c.args.base.now.1 x c.args.fields.now c.args.made.now)) (layers.field_bits c.args.field.now c.in-Bits.inner c.in-Bits.field-1 c.in-Bits.width c.in-Bits.is)))
    (off (answered (told_of c.args.around.now)) (spec.derived_by (context_of c.args.around.now) c.args.place c.args.at c.args.base.now.1 (seen.declarator_of c.in-Bits.inner) c.args.made.now) (λ x now. follow (spec.judge (context_of c.args.around.now) c.args.place (seen.tree_of c.in-Bits.width) now) (λ j next. fielding.bits (context_of c.args.around.now) c.args.base.now.0 (ends.place_behind c.args.at (seen.declarator_of c.in-Bits.inner)) (ends.name_of (seen.declarator_of c.in-Bits.inner)) x (ends.first_of (seen.tree_of c.in-Bits.width)) j c.args.fields.now next)) c.in-Err-derived_by.halt c.in-Err-derived_by.ensures)

pub bodies::field-returns-in-Err-judged : goal.bodies::field-returns-in-Err-judged
bodies::field-returns-in-Err-judged t c =
    stops_as (run_by (answered (told_of c.args.around.now)) (follow (spec.judge (context_of c.args.around.now) c.args.place (seen.tree_of c.in-Bits.width) c.derived_by-in-Bits.new.made) (λ x now. fielding.bits (context_of c.args.around.now) c.args.base.now.0 (ends.place_behind c.args.at (seen.declarator_of c.in-Bits.inner)) (ends.name_of (seen.declarator_of c.in-Bits.inner)) c.in-Ok-derived_by.done (ends.first_of (seen.tree_of c.in-Bits.width)) x c.args.fields.now now))) (run_by (answered (told_of c.args.around.now)) (spec.field (context_of c.args.around.now) c.args.place c.args.at c.args.base.now.0 c.args.base.now.1 (seen.field_of c.args.field.now) c.args.fields.now c.args.made.now)) c.in-Err-judged.halt
    (sym (ap (λ x. run_by (answered (told_of c.args.around.now)) (spec.field (context_of c.args.around.now) c.args.place c.args.at c.args.base.now.0 c.args.base.now.1 x c.args.fields.now c.args.made.now)) (layers.field_bits c.args.field.now c.in-Bits.inner c.in-Bits.field-1 c.in-Bits.width c.in-Bits.is)
    ∙ on (answered (told_of c.args.around.now)) (spec.derived_by (context_of c.args.around.now) c.args.place c.args.at c.args.base.now.1 (seen.declarator_of c.in-Bits.inner) c.args.made.now) (λ x now. follow (spec.judge (context_of c.args.around.now) c.args.place (seen.tree_of c.in-Bits.width) now) (λ j next. fielding.bits (context_of c.args.around.now) c.args.base.now.0 (ends.place_behind c.args.at (seen.declarator_of c.in-Bits.inner)) (ends.name_of (seen.declarator_of c.in-Bits.inner)) x (ends.first_of (seen.tree_of c.in-Bits.width)) j c.args.fields.now next)) (c.in-Ok-derived_by.done) (c.derived_by-in-Bits.new.made) c.in-Ok-derived_by.ensures))
    (off (answered (told_of c.args.around.now)) (spec.judge (context_of c.args.around.now) c.args.place (seen.tree_of c.in-Bits.width) c.derived_by-in-Bits.new.made) (λ x now. fielding.bits (context_of c.args.around.now) c.args.base.now.0 (ends.place_behind c.args.at (seen.declarator_of c.in-Bits.inner)) (ends.name_of (seen.declarator_of c.in-Bits.inner)) c.in-Ok-derived_by.done (ends.first_of (seen.tree_of c.in-Bits.width)) x c.args.fields.now now) c.in-Err-judged.halt c.in-Err-judged.ensures)

pub bodies::field-returns-in-Ok-judged : goal.bodies::field-returns-in-Ok-judged
bodies::field-returns-in-Ok-judged t c =
    let is2 : c.place_behind-begins-in-Bits.result ≡ ends.place_behind c.args.at (seen.declarator_of c.in-Bits.inner) = search rules in
    let is3 : c.name_of-name-in-Bits.result ≡ ends.name_of (seen.declarator_of c.in-Bits.inner) = search rules in
    let is4 : c.first_of-size.result ≡ ends.first_of (seen.tree_of c.in-Bits.width) = search rules in
    comes_as (told_of c.args.around.now) (spec.field (context_of c.args.around.now) c.args.place c.args.at c.args.base.now.0 c.args.base.now.1 (seen.field_of c.args.field.now) c.args.fields.now c.args.made.now) (fielding.bits (context_of c.args.around.now) c.args.base.now.0 c.place_behind-begins-in-Bits.result c.name_of-name-in-Bits.result c.in-Ok-derived_by.done c.first_of-size.result c.in-Ok-judged.done c.args.fields.now c.judged.new.made) (λ _. c.add_bits-done.new.fields) c.add_bits-done.result c.add_bits-done.new.made
    (ap (λ x. run_by (answered (told_of c.args.around.now)) (spec.field (context_of c.args.around.now) c.args.place c.args.at c.args.base.now.0 c.args.base.now.1 x c.args.fields.now c.args.made.now)) (layers.field_bits c.args.field.now c.in-Bits.inner c.in-Bits.field-1 c.in-Bits.width c.in-Bits.is)
    ∙ on (answered (told_of c.args.around.now)) (spec.derived_by (context_of c.args.around.now) c.args.place c.args.at c.args.base.now.1 (seen.declarator_of c.in-Bits.inner) c.args.made.now) (λ x now. follow (spec.judge (context_of c.args.around.now) c.args.place (seen.tree_of c.in-Bits.width) now) (λ j next. fielding.bits (context_of c.args.around.now) c.args.base.now.0 (ends.place_behind c.args.at (seen.declarator_of c.in-Bits.inner)) (ends.name_of (seen.declarator_of c.in-Bits.inner)) x (ends.first_of (seen.tree_of c.in-Bits.width)) j c.args.fields.now next)) (c.in-Ok-derived_by.done) (c.derived_by-in-Bits.new.made) c.in-Ok-derived_by.ensures
    ∙ on (answered (told_of c.args.around.now)) (spec.judge (context_of c.args.around.now) c.args.place (seen.tree_of c.in-Bits.width) c.derived_by-in-Bits.new.made) (λ x now. fielding.bits (context_of c.args.around.now) c.args.base.now.0 (ends.place_behind c.args.at (seen.declarator_of c.in-Bits.inner)) (ends.name_of (seen.declarator_of c.in-Bits.inner)) c.in-Ok-derived_by.done (ends.first_of (seen.tree_of c.in-Bits.width)) x c.args.fields.now now) (c.in-Ok-judged.done) (c.judged.new.made) c.in-Ok-judged.ensures
    ∙ ap (λ v. run_by (answered (told_of c.args.around.now)) (fielding.bits (context_of c.args.around.now) c.args.base.now.0 v (ends.name_of (seen.declarator_of c.in-Bits.inner)) c.in-Ok-derived_by.done (ends.first_of (seen.tree_of c.in-Bits.width)) c.in-Ok-judged.done c.args.fields.now c.judged.new.made)) (sym is2)
    ∙ ap (λ v. run_by (answered (told_of c.args.around.now)) (fielding.bits (context_of c.args.around.now) c.args.base.now.0 c.place_behind-begins-in-Bits.result v c.in-Ok-derived_by.done (ends.first_of (seen.tree_of c.in-Bits.width)) c.in-Ok-judged.done c.args.fields.now c.judged.new.made)) (sym is3)
    ∙ ap (λ v. run_by (answered (told_of c.args.around.now)) (fielding.bits (context_of c.args.around.now) c.args.base.now.0 c.place_behind-begins-in-Bits.result c.name_of-name-in-Bits.result c.in-Ok-derived_by.done v c.in-Ok-judged.done c.args.fields.now c.judged.new.made)) (sym is4))
    c.add_bits-done.ensures

pub bodies::field-returns-in-Err-judged-2 : goal.bodies::field-returns-in-Err-judged-2
bodies::field-returns-in-Err-judged-2 t c =
    stops_as (run_by (answered (told_of c.args.around.now)) (follow (spec.judge (context_of c.args.around.now) c.args.place (seen.tree_of c.in-Padding.width) c.args.made.now) (λ x now. fielding.bits (context_of c.args.around.now) c.args.base.now.0 c.in-Padding.colon None c.args.base.now.1 (ends.first_of (seen.tree_of c.in-Padding.width)) x c.args.fields.now now))) (run_by (answered (told_of c.args.around.now)) (spec.field (context_of c.args.around.now) c.args.place c.args.at c.args.base.now.0 c.args.base.now.1 (seen.field_of c.args.field.now) c.args.fields.now c.args.made.now)) c.in-Err-judged-2.halt
    (sym (ap (λ x. run_by (answered (told_of c.args.around.now)) (spec.field (context_of c.args.around.now) c.args.place c.args.at c.args.base.now.0 c.args.base.now.1 x c.args.fields.now c.args.made.now)) (layers.field_padding c.args.field.now c.in-Padding.colon c.in-Padding.width c.in-Padding.is)))
    (off (answered (told_of c.args.around.now)) (spec.judge (context_of c.args.around.now) c.args.place (seen.tree_of c.in-Padding.width) c.args.made.now) (λ x now. fielding.bits (context_of c.args.around.now) c.args.base.now.0 c.in-Padding.colon None c.args.base.now.1 (ends.first_of (seen.tree_of c.in-Padding.width)) x c.args.fields.now now) c.in-Err-judged-2.halt c.in-Err-judged-2.ensures)

pub bodies::field-returns-in-Ok-judged-2 : goal.bodies::field-returns-in-Ok-judged-2
bodies::field-returns-in-Ok-judged-2 t c =
    let is1 : c.first_of-size-in-Padding.result ≡ ends.first_of (seen.tree_of c.in-Padding.width) = search rules in
    comes_as (told_of c.args.around.now) (spec.field (context_of c.args.around.now) c.args.place c.args.at c.args.base.now.0 c.args.base.now.1 (seen.field_of c.args.field.now) c.args.fields.now c.args.made.now) (fielding.bits (context_of c.args.around.now) c.args.base.now.0 c.in-Padding.colon None c.args.base.now.1 c.first_of-size-in-Padding.result c.in-Ok-judged-2.done c.args.fields.now c.judged-in-Padding.new.made) (λ _. c.add_bits-done-in-Padding.new.fields) c.add_bits-done-in-Padding.result c.add_bits-done-in-Padding.new.made
    (ap (λ x. run_by (answered (told_of c.args.around.now)) (spec.field (context_of c.args.around.now) c.args.place c.args.at c.args.base.now.0 c.args.base.now.1 x c.args.fields.now c.args.made.now)) (layers.field_padding c.args.field.now c.in-Padding.colon c.in-Padding.width c.in-Padding.is)
    ∙ on (answered (told_of c.args.around.now)) (spec.judge (context_of c.args.around.now) c.args.place (seen.tree_of c.in-Padding.width) c.args.made.now) (λ x now. fielding.bits (context_of c.args.around.now) c.args.base.now.0 c.in-Padding.colon None c.args.base.now.1 (ends.first_of (seen.tree_of c.in-Padding.width)) x c.args.fields.now now) (c.in-Ok-judged-2.done) (c.judged-in-Padding.new.made) c.in-Ok-judged-2.ensures
    ∙ ap (λ v. run_by (answered (told_of c.args.around.now)) (fielding.bits (context_of c.args.around.now) c.args.base.now.0 c.in-Padding.colon None c.args.base.now.1 v c.in-Ok-judged-2.done c.args.fields.now c.judged-in-Padding.new.made)) (sym is1))
    c.add_bits-done-in-Padding.ensures

pub bodies::enumeration-returns-in-Err : goal.bodies::enumeration-returns-in-Err
bodies::enumeration-returns-in-Err t c =
    stops_as (run_by (answered (told_of c.args.around.now)) (follow (bodies.begun_body (context_of c.args.around.now) (out-Enumeration c.args.list.now).keyword (out-Enumeration c.args.list.now).tag c.args.made.now) (λ x now. follow (spec.enumerator (context_of c.args.around.now) c.args.place (seen.enumerator_of (out-Enumeration c.args.list.now).first) enums.none_listed now) (λ s next. follow (spec.enumerators (context_of c.args.around.now) c.args.place (trees.enumerators (seen.enumerators_of (out-Enumeration c.args.list.now).more.items) trees.No_enumerators) s next) (λ r last. Gives (listed.behind_enumerators x r c.args.gathered.now last)))))) (run_by (answered (told_of c.args.around.now)) (spec.specifier (context_of c.args.around.now) c.args.place (seen.enumeration_of c.args.list.now) c.args.gathered.now c.args.made.now)) c.in-Err.halt
    (sym (ap (λ x. run_by (answered (told_of c.args.around.now)) (spec.specifier (context_of c.args.around.now) c.args.place x c.args.gathered.now c.args.made.now)) (layers.enumeration_is c.args.list.now)))
    (off (answered (told_of c.args.around.now)) (bodies.begun_body (context_of c.args.around.now) (out-Enumeration c.args.list.now).keyword (out-Enumeration c.args.list.now).tag c.args.made.now) (λ x now. follow (spec.enumerator (context_of c.args.around.now) c.args.place (seen.enumerator_of (out-Enumeration c.args.list.now).first) enums.none_listed now) (λ s next. follow (spec.enumerators (context_of c.args.around.now) c.args.place (trees.enumerators (seen.enumerators_of (out-Enumeration c.args.list.now).more.items) trees.No_enumerators) s next) (λ r last. Gives (listed.behind_enumerators x r c.args.gathered.now last)))) c.in-Err.halt c.in-Err.ensures)

pub bodies::enumeration-returns-in-Err-enumerator : goal.bodies::enumeration-returns-in-Err-enumerator
bodies::enumeration-returns-in-Err-enumerator t c =
    let is1 : c.new-rows.result ≡ enums.none_listed = search rules in
    stops_as (run_by (answered (told_of c.args.around.now)) (follow (spec.enumerator (context_of c.args.around.now) c.args.place (seen.enumerator_of (out-Enumeration c.args.list.now).first) c.new-rows.result c.begin_body.new.made) (λ x now. follow (spec.enumerators (context_of c.args.around.now) c.args.place (trees.enumerators (seen.enumerators_of (out-Enumeration c.args.list.now).more.items) trees.No_enumerators) x now) (λ r last. Gives (listed.behind_enumerators c.in-Ok.done r c.args.gathered.now last))))) (run_by (answered (told_of c.args.around.now)) (spec.specifier (context_of c.args.around.now) c.args.place (seen.enumeration_of c.args.list.now) c.args.gathered.now c.args.made.now)) c.in-Err-enumerator.halt
    (sym (ap (λ x. run_by (answered (told_of c.args.around.now)) (spec.specifier (context_of c.args.around.now) c.args.place x c.args.gathered.now c.args.made.now)) (layers.enumeration_is c.args.list.now)
    ∙ on (answered (told_of c.args.around.now)) (bodies.begun_body (context_of c.args.around.now) (out-Enumeration c.args.list.now).keyword (out-Enumeration c.args.list.now).tag c.args.made.now) (λ x now. follow (spec.enumerator (context_of c.args.around.now) c.args.place (seen.enumerator_of (out-Enumeration c.args.list.now).first) enums.none_listed now) (λ s next. follow (spec.enumerators (context_of c.args.around.now) c.args.place (trees.enumerators (seen.enumerators_of (out-Enumeration c.args.list.now).more.items) trees.No_enumerators) s next) (λ r last. Gives (listed.behind_enumerators x r c.args.gathered.now last)))) (c.in-Ok.done) (c.begin_body.new.made) c.in-Ok.ensures
    ∙ ap (λ v. run_by (answered (told_of c.args.around.now)) (follow (spec.enumerator (context_of c.args.around.now) c.args.place (seen.enumerator_of (out-Enumeration c.args.list.now).first) v c.begin_body.new.made) (λ s next. follow (spec.enumerators (context_of c.args.around.now) c.args.place (trees.enumerators (seen.enumerators_of (out-Enumeration c.args.list.now).more.items) trees.No_enumerators) s next) (λ r last. Gives (listed.behind_enumerators c.in-Ok.done r c.args.gathered.now last))))) (sym is1)))
    (off (answered (told_of c.args.around.now)) (spec.enumerator (context_of c.args.around.now) c.args.place (seen.enumerator_of (out-Enumeration c.args.list.now).first) c.new-rows.result c.begin_body.new.made) (λ x now. follow (spec.enumerators (context_of c.args.around.now) c.args.place (trees.enumerators (seen.enumerators_of (out-Enumeration c.args.list.now).more.items) trees.No_enumerators) x now) (λ r last. Gives (listed.behind_enumerators c.in-Ok.done r c.args.gathered.now last))) c.in-Err-enumerator.halt c.in-Err-enumerator.ensures)

pub bodies::enumeration-returns-in-Err-enumerators : goal.bodies::enumeration-returns-in-Err-enumerators
bodies::enumeration-returns-in-Err-enumerators t c =
    let is1 : c.new-rows.result ≡ enums.none_listed = search rules in
    stops_as (run_by (answered (told_of c.args.around.now)) (follow (spec.enumerators (context_of c.args.around.now) c.args.place (trees.enumerators (seen.enumerators_of (out-Enumeration c.args.list.now).more.items) trees.No_enumerators) c.enumerator.new.rows c.enumerator.new.made) (λ x now. Gives (listed.behind_enumerators c.in-Ok.done x c.args.gathered.now now)))) (run_by (answered (told_of c.args.around.now)) (spec.specifier (context_of c.args.around.now) c.args.place (seen.enumeration_of c.args.list.now) c.args.gathered.now c.args.made.now)) c.in-Err-enumerators.halt
    (sym (ap (λ x. run_by (answered (told_of c.args.around.now)) (spec.specifier (context_of c.args.around.now) c.args.place x c.args.gathered.now c.args.made.now)) (layers.enumeration_is c.args.list.now)
    ∙ on (answered (told_of c.args.around.now)) (bodies.begun_body (context_of c.args.around.now) (out-Enumeration c.args.list.now).keyword (out-Enumeration c.args.list.now).tag c.args.made.now) (λ x now. follow (spec.enumerator (context_of c.args.around.now) c.args.place (seen.enumerator_of (out-Enumeration c.args.list.now).first) enums.none_listed now) (λ s next. follow (spec.enumerators (context_of c.args.around.now) c.args.place (trees.enumerators (seen.enumerators_of (out-Enumeration c.args.list.now).more.items) trees.No_enumerators) s next) (λ r last. Gives (listed.behind_enumerators x r c.args.gathered.now last)))) (c.in-Ok.done) (c.begin_body.new.made) c.in-Ok.ensures
    ∙ ap (λ v. run_by (answered (told_of c.args.around.now)) (follow (spec.enumerator (context_of c.args.around.now) c.args.place (seen.enumerator_of (out-Enumeration c.args.list.now).first) v c.begin_body.new.made) (λ s next. follow (spec.enumerators (context_of c.args.around.now) c.args.place (trees.enumerators (seen.enumerators_of (out-Enumeration c.args.list.now).more.items) trees.No_enumerators) s next) (λ r last. Gives (listed.behind_enumerators c.in-Ok.done r c.args.gathered.now last))))) (sym is1)
    ∙ on (answered (told_of c.args.around.now)) (spec.enumerator (context_of c.args.around.now) c.args.place (seen.enumerator_of (out-Enumeration c.args.list.now).first) c.new-rows.result c.begin_body.new.made) (λ x now. follow (spec.enumerators (context_of c.args.around.now) c.args.place (trees.enumerators (seen.enumerators_of (out-Enumeration c.args.list.now).more.items) trees.No_enumerators) x now) (λ r last. Gives (listed.behind_enumerators c.in-Ok.done r c.args.gathered.now last))) (c.enumerator.new.rows) (c.enumerator.new.made) c.in-Ok-enumerator.ensures))
    (off (answered (told_of c.args.around.now)) (spec.enumerators (context_of c.args.around.now) c.args.place (trees.enumerators (seen.enumerators_of (out-Enumeration c.args.list.now).more.items) trees.No_enumerators) c.enumerator.new.rows c.enumerator.new.made) (λ x now. Gives (listed.behind_enumerators c.in-Ok.done x c.args.gathered.now now)) c.in-Err-enumerators.halt c.in-Err-enumerators.ensures)

pub bodies::enumeration-returns : goal.bodies::enumeration-returns
bodies::enumeration-returns t c =
    let is1 : c.new-rows.result ≡ enums.none_listed = search rules in
    let last : (c.add_enumerators.new.gathered, c.add_enumerators.new.made) ≡ listed.behind_enumerators c.in-Ok.done c.enumerators.new.rows c.args.gathered.now c.enumerators.new.made = search rules in
    ap (λ x. run_by (answered (told_of c.args.around.now)) (spec.specifier (context_of c.args.around.now) c.args.place x c.args.gathered.now c.args.made.now)) (layers.enumeration_is c.args.list.now)
    ∙ on (answered (told_of c.args.around.now)) (bodies.begun_body (context_of c.args.around.now) (out-Enumeration c.args.list.now).keyword (out-Enumeration c.args.list.now).tag c.args.made.now) (λ x now. follow (spec.enumerator (context_of c.args.around.now) c.args.place (seen.enumerator_of (out-Enumeration c.args.list.now).first) enums.none_listed now) (λ s next. follow (spec.enumerators (context_of c.args.around.now) c.args.place (trees.enumerators (seen.enumerators_of (out-Enumeration c.args.list.now).more.items) trees.No_enumerators) s next) (λ r last. Gives (listed.behind_enumerators x r c.args.gathered.now last)))) (c.in-Ok.done) (c.begin_body.new.made) c.in-Ok.ensures
    ∙ ap (λ v. run_by (answered (told_of c.args.around.now)) (follow (spec.enumerator (context_of c.args.around.now) c.args.place (seen.enumerator_of (out-Enumeration c.args.list.now).first) v c.begin_body.new.made) (λ s next. follow (spec.enumerators (context_of c.args.around.now) c.args.place (trees.enumerators (seen.enumerators_of (out-Enumeration c.args.list.now).more.items) trees.No_enumerators) s next) (λ r last. Gives (listed.behind_enumerators c.in-Ok.done r c.args.gathered.now last))))) (sym is1)
    ∙ on (answered (told_of c.args.around.now)) (spec.enumerator (context_of c.args.around.now) c.args.place (seen.enumerator_of (out-Enumeration c.args.list.now).first) c.new-rows.result c.begin_body.new.made) (λ x now. follow (spec.enumerators (context_of c.args.around.now) c.args.place (trees.enumerators (seen.enumerators_of (out-Enumeration c.args.list.now).more.items) trees.No_enumerators) x now) (λ r last. Gives (listed.behind_enumerators c.in-Ok.done r c.args.gathered.now last))) (c.enumerator.new.rows) (c.enumerator.new.made) c.in-Ok-enumerator.ensures
    ∙ on (answered (told_of c.args.around.now)) (spec.enumerators (context_of c.args.around.now) c.args.place (trees.enumerators (seen.enumerators_of (out-Enumeration c.args.list.now).more.items) trees.No_enumerators) c.enumerator.new.rows c.enumerator.new.made) (λ x now. Gives (listed.behind_enumerators c.in-Ok.done x c.args.gathered.now now)) (c.enumerators.new.rows) (c.enumerators.new.made) c.in-Ok-enumerators.ensures
    ∙ ap (λ r. Ends r) (sym last)

pub bodies::enumerator-returns-in-Ok : goal.bodies::enumerator-returns-in-Ok
bodies::enumerator-returns-in-Ok t c =
    let last : (c.count.new.list, c.count.new.made) ≡ enumerating.counted (context_of c.args.around.now) c.in-Counted.at c.args.rows.now c.args.made.now = search rules in
    ap (λ x. run_by (answered (told_of c.args.around.now)) (spec.enumerator (context_of c.args.around.now) c.args.place x c.args.rows.now c.args.made.now)) (layers.enumerator_counted c.args.one.now c.in-Counted.at c.in-Counted.is)
    ∙ ap (λ r. Ends r) (sym last)

pub bodies::enumerator-returns-in-Err : goal.bodies::enumerator-returns-in-Err
bodies::enumerator-returns-in-Err t c =
    stops_as (run_by (answered (told_of c.args.around.now)) (follow (spec.judge (context_of c.args.around.now) c.args.place (seen.tree_of c.in-Given.value) c.args.made.now) (λ x now. Gives (enumerating.given (context_of c.args.around.now) c.in-Given.at (ends.first_of (seen.tree_of c.in-Given.value)) x c.args.rows.now now)))) (run_by (answered (told_of c.args.around.now)) (spec.enumerator (context_of c.args.around.now) c.args.place (seen.enumerator_of c.args.one.now) c.args.rows.now c.args.made.now)) c.in-Err.halt
    (sym (ap (λ x. run_by (answered (told_of c.args.around.now)) (spec.enumerator (context_of c.args.around.now) c.args.place x c.args.rows.now c.args.made.now)) (layers.enumerator_given c.args.one.now c.in-Given.at c.in-Given.field-1 c.in-Given.value c.in-Given.is)))
    (off (answered (told_of c.args.around.now)) (spec.judge (context_of c.args.around.now) c.args.place (seen.tree_of c.in-Given.value) c.args.made.now) (λ x now. Gives (enumerating.given (context_of c.args.around.now) c.in-Given.at (ends.first_of (seen.tree_of c.in-Given.value)) x c.args.rows.now now)) c.in-Err.halt c.in-Err.ensures)

pub bodies::enumerator-returns-in-Ok-give : goal.bodies::enumerator-returns-in-Ok-give
bodies::enumerator-returns-in-Ok-give t c =
    let last : (c.give.new.list, c.give.new.made) ≡ enumerating.given (context_of c.args.around.now) c.in-Given.at (ends.first_of (seen.tree_of c.in-Given.value)) c.in-Ok-judged.done c.args.rows.now c.judged.new.made = search rules in
    ap (λ x. run_by (answered (told_of c.args.around.now)) (spec.enumerator (context_of c.args.around.now) c.args.place x c.args.rows.now c.args.made.now)) (layers.enumerator_given c.args.one.now c.in-Given.at c.in-Given.field-1 c.in-Given.value c.in-Given.is)
    ∙ on (answered (told_of c.args.around.now)) (spec.judge (context_of c.args.around.now) c.args.place (seen.tree_of c.in-Given.value) c.args.made.now) (λ x now. Gives (enumerating.given (context_of c.args.around.now) c.in-Given.at (ends.first_of (seen.tree_of c.in-Given.value)) x c.args.rows.now now)) (c.in-Ok-judged.done) (c.judged.new.made) c.in-Ok-judged.ensures
    ∙ ap (λ r. Ends r) (sym last)

pub bodies::asserted-returns-in-Err : goal.bodies::asserted-returns-in-Err
bodies::asserted-returns-in-Err t c =
    stops_as (run_by (answered (told_of c.args.around.now)) (and_then (spec.judge (context_of c.args.around.now) c.args.place (seen.tree_of (out-Assertion c.args.assertion.now).condition) c.args.made.now) (λ r. Gives (asserting.asserted (context_of c.args.around.now) (out-Assertion c.args.assertion.now).keyword (out-Assertion c.args.assertion.now).text.items (ends.first_of (seen.tree_of (out-Assertion c.args.assertion.now).condition)) r.0 r.1)))) (run_by (answered (told_of c.args.around.now)) (spec.assertion (context_of c.args.around.now) c.args.place (seen.assertion_of c.args.assertion.now) c.args.made.now)) c.in-Err.halt (sym (ap (λ x. run_by (answered (told_of c.args.around.now)) (spec.assertion (context_of c.args.around.now) c.args.place x c.args.made.now)) (layers.assertion_is c.args.assertion.now)))
    (stops_on (answered (told_of c.args.around.now)) (spec.judge (context_of c.args.around.now) c.args.place (seen.tree_of (out-Assertion c.args.assertion.now).condition) c.args.made.now) (λ r. Gives (asserting.asserted (context_of c.args.around.now) (out-Assertion c.args.assertion.now).keyword (out-Assertion c.args.assertion.now).text.items (ends.first_of (seen.tree_of (out-Assertion c.args.assertion.now).condition)) r.0 r.1)) c.in-Err.halt c.in-Err.ensures)

pub bodies::asserted-returns : goal.bodies::asserted-returns
bodies::asserted-returns t c =
    let last : c.assert_judged.new.made ≡ asserting.asserted (context_of c.args.around.now) (out-Assertion c.args.assertion.now).keyword (out-Assertion c.args.assertion.now).text.items (ends.first_of (seen.tree_of (out-Assertion c.args.assertion.now).condition)) c.in-Ok.done c.judged.new.made = search rules in
    ap (λ x. run_by (answered (told_of c.args.around.now)) (spec.assertion (context_of c.args.around.now) c.args.place x c.args.made.now)) (layers.assertion_is c.args.assertion.now)
    ∙ run_then (answered (told_of c.args.around.now)) (spec.judge (context_of c.args.around.now) c.args.place (seen.tree_of (out-Assertion c.args.assertion.now).condition) c.args.made.now) (λ r. Gives (asserting.asserted (context_of c.args.around.now) (out-Assertion c.args.assertion.now).keyword (out-Assertion c.args.assertion.now).text.items (ends.first_of (seen.tree_of (out-Assertion c.args.assertion.now).condition)) r.0 r.1)) (c.in-Ok.done, c.judged.new.made) c.in-Ok.ensures
    ∙ ap (λ m. Ends m) (sym last)

pub naming::specifiers-returns : goal.naming::specifiers-returns
naming::specifiers-returns t c =
    subst (λ x. Comes (told_of c.args.around.now) (spec.specifiers (context_of c.args.around.now) c.args.place x specifiers.nothing c.args.made.now) (λ x. x) c.specified.result c.specified.new.made) (sym (layers.specs_is c.args.specs.now)) c.specified.ensures

pub bodies::members-members-preserved : goal.bodies::members-members-preserved
bodies::members-members-preserved t c =
    turns (answered (told_of c.args.around.now)) (λ (xs : List Member) (s : members_of.Gathered) (m : Made). spec.members (context_of c.args.around.now) c.args.place (trees.members (seen.members_of xs) trees.No_members) s m) (λ (x : Member) (s : members_of.Gathered) (m : Made). spec.member (context_of c.args.around.now) c.args.place (seen.member_of x) s m) (λ x xs s m. refl) c.deref-next-items.result.now c.members.next-index c.next-item.result (c.members.fields) (c.member.new.fields) c.members.made c.member.new.made _ c.members-test.true c.next-item.is c.in-Ok.ensures c.members.invariant

pub bodies::members-returns-in-Err : goal.bodies::members-returns-in-Err
bodies::members-returns-in-Err t c =
    halts (answered (told_of c.args.around.now)) (λ (xs : List Member) (s : members_of.Gathered) (m : Made). spec.members (context_of c.args.around.now) c.args.place (trees.members (seen.members_of xs) trees.No_members) s m) (λ (x : Member) (s : members_of.Gathered) (m : Made). spec.member (context_of c.args.around.now) c.args.place (seen.member_of x) s m) (λ x xs s m. refl) c.deref-next-items.result.now c.members.next-index c.next-item.result (c.members.fields) c.members.made _ c.in-Err.halt c.members-test.true c.next-item.is c.in-Err.ensures c.members.invariant

pub bodies::other_fields-fields-preserved : goal.bodies::other_fields-fields-preserved
bodies::other_fields-fields-preserved t c =
    turns (answered (told_of c.args.around.now)) (λ (xs : List (ℕ × Field)) (s : members_of.Gathered) (m : Made). spec.fields (context_of c.args.around.now) c.args.place c.args.at c.args.base.now.0 c.args.base.now.1 (trees.fields (seen.fields_of xs) trees.No_fields) s m) (λ (x : (ℕ × Field)) (s : members_of.Gathered) (m : Made). spec.field (context_of c.args.around.now) c.args.place c.args.at c.args.base.now.0 c.args.base.now.1 (seen.field_of x.1) s m) (λ x xs s m. refl) c.deref-pair-items.result.now c.fields.pair-index c.pair-item.result (c.fields.fields) (c.field.new.fields) c.fields.made c.field.new.made _ c.fields-test.true c.pair-item.is c.in-Ok.ensures c.fields.invariant

pub bodies::other_fields-returns-in-Err : goal.bodies::other_fields-returns-in-Err
bodies::other_fields-returns-in-Err t c =
    halts (answered (told_of c.args.around.now)) (λ (xs : List (ℕ × Field)) (s : members_of.Gathered) (m : Made). spec.fields (context_of c.args.around.now) c.args.place c.args.at c.args.base.now.0 c.args.base.now.1 (trees.fields (seen.fields_of xs) trees.No_fields) s m) (λ (x : (ℕ × Field)) (s : members_of.Gathered) (m : Made). spec.field (context_of c.args.around.now) c.args.place c.args.at c.args.base.now.0 c.args.base.now.1 (seen.field_of x.1) s m) (λ x xs s m. refl) c.deref-pair-items.result.now c.fields.pair-index c.pair-item.result (c.fields.fields) c.fields.made _ c.in-Err.halt c.fields-test.true c.pair-item.is c.in-Err.ensures c.fields.invariant

pub bodies::enumerators-enumerators-preserved : goal.bodies::enumerators-enumerators-preserved
bodies::enumerators-enumerators-preserved t c =
    turns (answered (told_of c.args.around.now)) (λ (xs : List (ℕ × Enumerator)) (s : enums.Listed) (m : Made). spec.enumerators (context_of c.args.around.now) c.args.place (trees.enumerators (seen.enumerators_of xs) trees.No_enumerators) s m) (λ (x : (ℕ × Enumerator)) (s : enums.Listed) (m : Made). spec.enumerator (context_of c.args.around.now) c.args.place (seen.enumerator_of x.1) s m) (λ x xs s m. refl) c.deref-pair-items.result.now c.enumerators.pair-index c.pair-item.result (c.enumerators.rows) (c.enumerator.new.rows) c.enumerators.made c.enumerator.new.made _ c.enumerators-test.true c.pair-item.is c.in-Ok.ensures c.enumerators.invariant

pub bodies::enumerators-returns-in-Err : goal.bodies::enumerators-returns-in-Err
bodies::enumerators-returns-in-Err t c =
    halts (answered (told_of c.args.around.now)) (λ (xs : List (ℕ × Enumerator)) (s : enums.Listed) (m : Made). spec.enumerators (context_of c.args.around.now) c.args.place (trees.enumerators (seen.enumerators_of xs) trees.No_enumerators) s m) (λ (x : (ℕ × Enumerator)) (s : enums.Listed) (m : Made). spec.enumerator (context_of c.args.around.now) c.args.place (seen.enumerator_of x.1) s m) (λ x xs s m. refl) c.deref-pair-items.result.now c.enumerators.pair-index c.pair-item.result (c.enumerators.rows) c.enumerators.made _ c.in-Err.halt c.enumerators-test.true c.pair-item.is c.in-Err.ensures c.enumerators.invariant

pub postfix::operands-operands-preserved : goal.postfix::operands-operands-preserved
postfix::operands-operands-preserved t c =
    turns (answered (told_of c.args.around.now)) (λ (xs : List (ℕ × Expr)) (s : Judged) (m : Made). spec.go_on (context_of c.args.around.now) c.args.place (trees.behinds (seen.operands_of xs) trees.None_behind) s m) (λ (x : (ℕ × Expr)) (s : Judged) (m : Made). spec.behind (context_of c.args.around.now) c.args.place (trees.Operand_of x.0 (seen.tree_of x.1)) s m) (λ x xs s m. refl) c.deref-pair-items.result.now c.operands.pair-index c.pair-item.result (c.operands.left) (c.in-Ok.done) c.operands.made c.operand.new.made _ c.operands-test.true c.pair-item.is c.in-Ok.ensures c.operands.invariant

pub postfix::operands-returns-in-Err : goal.postfix::operands-returns-in-Err
postfix::operands-returns-in-Err t c =
    halts (answered (told_of c.args.around.now)) (λ (xs : List (ℕ × Expr)) (s : Judged) (m : Made). spec.go_on (context_of c.args.around.now) c.args.place (trees.behinds (seen.operands_of xs) trees.None_behind) s m) (λ (x : (ℕ × Expr)) (s : Judged) (m : Made). spec.behind (context_of c.args.around.now) c.args.place (trees.Operand_of x.0 (seen.tree_of x.1)) s m) (λ x xs s m. refl) c.deref-pair-items.result.now c.operands.pair-index c.pair-item.result (c.operands.left) c.operands.made _ c.in-Err.halt c.operands-test.true c.pair-item.is c.in-Err.ensures c.operands.invariant

pub postfix::arguments-arguments-preserved : goal.postfix::arguments-arguments-preserved
postfix::arguments-arguments-preserved t c =
    turns (answered (told_of c.args.around.now)) (λ (xs : List (ℕ × Expr)) (s : (List Judged)) (m : Made). spec.arguments (context_of c.args.around.now) c.args.place (trees.behinds (seen.operands_of xs) trees.None_behind) s m) (λ (x : (ℕ × Expr)) (s : (List Judged)) (m : Made). spec.argument (context_of c.args.around.now) c.args.place (trees.Operand_of x.0 (seen.tree_of x.1)) s m) (λ x xs s m. refl) c.deref-pair-items.result.now c.arguments.pair-index c.pair-item.result (c.arguments.parts) (c.argument.new.parts) c.arguments.made c.argument.new.made _ c.arguments-test.true c.pair-item.is c.in-Ok.ensures c.arguments.invariant

pub postfix::arguments-returns-in-Err : goal.postfix::arguments-returns-in-Err
postfix::arguments-returns-in-Err t c =
    halts (answered (told_of c.args.around.now)) (λ (xs : List (ℕ × Expr)) (s : (List Judged)) (m : Made). spec.arguments (context_of c.args.around.now) c.args.place (trees.behinds (seen.operands_of xs) trees.None_behind) s m) (λ (x : (ℕ × Expr)) (s : (List Judged)) (m : Made). spec.argument (context_of c.args.around.now) c.args.place (trees.Operand_of x.0 (seen.tree_of x.1)) s m) (λ x xs s m. refl) c.deref-pair-items.result.now c.arguments.pair-index c.pair-item.result (c.arguments.parts) c.arguments.made _ c.in-Err.halt c.arguments-test.true c.pair-item.is c.in-Err.ensures c.arguments.invariant

pub postfix::suffixes-suffixes-preserved : goal.postfix::suffixes-suffixes-preserved
postfix::suffixes-suffixes-preserved t c =
    turns (answered (told_of c.args.around.now)) (λ (xs : List Suffix) (s : Judged) (m : Made). spec.go_on (context_of c.args.around.now) c.args.place (trees.behinds (seen.suffixes_of xs) trees.None_behind) s m) (λ (x : Suffix) (s : Judged) (m : Made). spec.behind (context_of c.args.around.now) c.args.place (seen.behind_of x) s m) (λ x xs s m. refl) c.deref-next-items.result.now c.suffixes.next-index c.next-item.result (c.suffixes.operand) (c.in-Ok.done) c.suffixes.made c.suffix.new.made _ c.suffixes-test.true c.next-item.is c.in-Ok.ensures c.suffixes.invariant

pub postfix::suffixes-returns-in-Err : goal.postfix::suffixes-returns-in-Err
postfix::suffixes-returns-in-Err t c =
    halts (answered (told_of c.args.around.now)) (λ (xs : List Suffix) (s : Judged) (m : Made). spec.go_on (context_of c.args.around.now) c.args.place (trees.behinds (seen.suffixes_of xs) trees.None_behind) s m) (λ (x : Suffix) (s : Judged) (m : Made). spec.behind (context_of c.args.around.now) c.args.place (seen.behind_of x) s m) (λ x xs s m. refl) c.deref-next-items.result.now c.suffixes.next-index c.next-item.result (c.suffixes.operand) c.suffixes.made _ c.in-Err.halt c.suffixes-test.true c.next-item.is c.in-Err.ensures c.suffixes.invariant

pub unary::prefixes_wait-prefixes-preserved : goal.unary::prefixes_wait-prefixes-preserved
unary::prefixes_wait-prefixes-preserved t c =
    turns (answered (told_of c.args.around.now)) (λ (xs : List Prefix) (s : waits.Awaited) (m : Made). waits.awaits (context_of c.args.around.now) s.0 (trees.fronts (seen.prefixes_of xs) trees.None_before) s.1 m) (λ (x : Prefix) (s : waits.Awaited) (m : Made). waits.await (context_of c.args.around.now) s.0 (seen.prefix_of x) s.1 m) (λ x xs s m. refl) c.deref-next-items.result.now c.prefixes.next-index c.next-item.result ((c.prefixes.place, c.prefixes.waiting)) ((c.prefix_waits.new.place, c.prefix_waits.new.waiting)) c.prefixes.made c.prefix_waits.new.made _ c.prefixes-test.true c.next-item.is c.in-Ok.ensures c.prefixes.invariant

pub unary::prefixes_wait-returns-in-Err : goal.unary::prefixes_wait-returns-in-Err
unary::prefixes_wait-returns-in-Err t c =
    halts (answered (told_of c.args.around.now)) (λ (xs : List Prefix) (s : waits.Awaited) (m : Made). waits.awaits (context_of c.args.around.now) s.0 (trees.fronts (seen.prefixes_of xs) trees.None_before) s.1 m) (λ (x : Prefix) (s : waits.Awaited) (m : Made). waits.await (context_of c.args.around.now) s.0 (seen.prefix_of x) s.1 m) (λ x xs s m. refl) c.deref-next-items.result.now c.prefixes.next-index c.next-item.result ((c.prefixes.place, c.prefixes.waiting)) c.prefixes.made _ c.in-Err.halt c.prefixes-test.true c.next-item.is c.in-Err.ensures c.prefixes.invariant

pub unary::choices_wait-choices-preserved : goal.unary::choices_wait-choices-preserved
unary::choices_wait-choices-preserved t c =
    turns (answered (told_of c.args.around.now)) (λ (xs : List Choice) (s : waits.Awaited) (m : Made). waits.awaits (context_of c.args.around.now) s.0 (trees.fronts (seen.choices_of xs) trees.None_before) s.1 m) (λ (x : Choice) (s : waits.Awaited) (m : Made). waits.await (context_of c.args.around.now) s.0 (seen.front_of x) s.1 m) (λ x xs s m. refl) c.deref-next-items.result.now c.choices.next-index c.next-item.result ((c.args.place, c.choices.waiting)) ((c.args.place, c.choice_waits.new.waiting)) c.choices.made c.choice_waits.new.made _ c.choices-test.true c.next-item.is c.in-Ok.ensures c.choices.invariant

pub unary::choices_wait-returns-in-Err : goal.unary::choices_wait-returns-in-Err
unary::choices_wait-returns-in-Err t c =
    halts (answered (told_of c.args.around.now)) (λ (xs : List Choice) (s : waits.Awaited) (m : Made). waits.awaits (context_of c.args.around.now) s.0 (trees.fronts (seen.choices_of xs) trees.None_before) s.1 m) (λ (x : Choice) (s : waits.Awaited) (m : Made). waits.await (context_of c.args.around.now) s.0 (seen.front_of x) s.1 m) (λ x xs s m. refl) c.deref-next-items.result.now c.choices.next-index c.next-item.result ((c.args.place, c.choices.waiting)) c.choices.made _ c.in-Err.halt c.choices-test.true c.next-item.is c.in-Err.ensures c.choices.invariant

pub unary::places_wait-places-preserved : goal.unary::places_wait-places-preserved
unary::places_wait-places-preserved t c =
    turns (answered (told_of c.args.around.now)) (λ (xs : List (Expr × ℕ)) (s : waits.Awaited) (m : Made). waits.awaits (context_of c.args.around.now) s.0 (trees.fronts (seen.lefts_of xs) trees.None_before) s.1 m) (λ (x : (Expr × ℕ)) (s : waits.Awaited) (m : Made). waits.await (context_of c.args.around.now) s.0 (trees.Left_of (seen.tree_of x.0) x.1) s.1 m) (λ x xs s m. refl) c.deref-pair-items.result.now c.places.pair-index c.pair-item.result ((c.args.place, c.places.waiting)) ((c.args.place, c.place_waits.new.waiting)) c.places.made c.place_waits.new.made _ c.places-test.true c.pair-item.is c.in-Ok.ensures c.places.invariant

pub unary::places_wait-returns-in-Err : goal.unary::places_wait-returns-in-Err
unary::places_wait-returns-in-Err t c =
    halts (answered (told_of c.args.around.now)) (λ (xs : List (Expr × ℕ)) (s : waits.Awaited) (m : Made). waits.awaits (context_of c.args.around.now) s.0 (trees.fronts (seen.lefts_of xs) trees.None_before) s.1 m) (λ (x : (Expr × ℕ)) (s : waits.Awaited) (m : Made). waits.await (context_of c.args.around.now) s.0 (trees.Left_of (seen.tree_of x.0) x.1) s.1 m) (λ x xs s m. refl) c.deref-pair-items.result.now c.places.pair-index c.pair-item.result ((c.args.place, c.places.waiting)) c.places.made _ c.in-Err.halt c.places-test.true c.pair-item.is c.in-Err.ensures c.places.invariant

pub generics::associations-associations-preserved : goal.generics::associations-associations-preserved
generics::associations-associations-preserved t c =
    turns (answered (told_of c.args.around.now)) (λ (xs : List (ℕ × Association)) (s : Choices) (m : Made). spec.associations (context_of c.args.around.now) c.args.place (trees.associations (seen.associations_of xs)) s m) (λ (x : (ℕ × Association)) (s : Choices) (m : Made). spec.association_of (context_of c.args.around.now) c.args.place (seen.association_of x.1) s m) (λ x xs s m. refl) c.deref-pair-items.result.now c.associations.pair-index c.pair-item.result (c.associations.choices) (c.association.new.choices) c.associations.made c.association.new.made _ c.associations-test.true c.pair-item.is c.in-Ok.ensures c.associations.invariant

pub generics::associations-returns-in-Err : goal.generics::associations-returns-in-Err
generics::associations-returns-in-Err t c =
    halts (answered (told_of c.args.around.now)) (λ (xs : List (ℕ × Association)) (s : Choices) (m : Made). spec.associations (context_of c.args.around.now) c.args.place (trees.associations (seen.associations_of xs)) s m) (λ (x : (ℕ × Association)) (s : Choices) (m : Made). spec.association_of (context_of c.args.around.now) c.args.place (seen.association_of x.1) s m) (λ x xs s m. refl) c.deref-pair-items.result.now c.associations.pair-index c.pair-item.result (c.associations.choices) c.associations.made _ c.in-Err.halt c.associations-test.true c.pair-item.is c.in-Err.ensures c.associations.invariant

pub offsets::steps_to-steps-preserved : goal.offsets::steps_to-steps-preserved
offsets::steps_to-steps-preserved t c =
    turns (answered (told_of c.args.around.now)) (λ (xs : List Suffix) (s : Way) (m : Made). spec.steps_to (context_of c.args.around.now) c.args.place (trees.behinds (seen.suffixes_of xs) trees.None_behind) s m) (λ (x : Suffix) (s : Way) (m : Made). spec.step_to (context_of c.args.around.now) c.args.place (seen.behind_of x) s m) (λ x xs s m. refl) c.deref-next-items.result.now c.steps.next-index c.next-item.result (c.steps.way) (c.step.new.way) c.steps.made c.step.new.made _ c.steps-test.true c.next-item.is c.in-Ok.ensures c.steps.invariant

pub offsets::steps_to-returns-in-Err : goal.offsets::steps_to-returns-in-Err
offsets::steps_to-returns-in-Err t c =
    halts (answered (told_of c.args.around.now)) (λ (xs : List Suffix) (s : Way) (m : Made). spec.steps_to (context_of c.args.around.now) c.args.place (trees.behinds (seen.suffixes_of xs) trees.None_behind) s m) (λ (x : Suffix) (s : Way) (m : Made). spec.step_to (context_of c.args.around.now) c.args.place (seen.behind_of x) s m) (λ x xs s m. refl) c.deref-next-items.result.now c.steps.next-index c.next-item.result (c.steps.way) c.steps.made _ c.in-Err.halt c.steps-test.true c.next-item.is c.in-Err.ensures c.steps.invariant

pub braces::designators-designators-preserved : goal.braces::designators-designators-preserved
braces::designators-designators-preserved t c =
    turns (answered (told_of c.args.around.now)) (λ (xs : List Designator) (s : Filling) (m : Made). spec.designators_in (context_of c.args.around.now) c.args.place (trees.designators (seen.designators_of xs)) s m) (λ (x : Designator) (s : Filling) (m : Made). spec.designator_in (context_of c.args.around.now) c.args.place (seen.designator_of x) s m) (λ x xs s m. refl) c.deref-next-items.result.now c.designators.next-index c.next-item.result (c.designators.filling) (c.designator.new.filling) c.designators.made c.designator.new.made _ c.designators-test.true c.next-item.is c.in-Ok.ensures c.designators.invariant

pub braces::designators-returns-in-Err : goal.braces::designators-returns-in-Err
braces::designators-returns-in-Err t c =
    halts (answered (told_of c.args.around.now)) (λ (xs : List Designator) (s : Filling) (m : Made). spec.designators_in (context_of c.args.around.now) c.args.place (trees.designators (seen.designators_of xs)) s m) (λ (x : Designator) (s : Filling) (m : Made). spec.designator_in (context_of c.args.around.now) c.args.place (seen.designator_of x) s m) (λ x xs s m. refl) c.deref-next-items.result.now c.designators.next-index c.next-item.result (c.designators.filling) c.designators.made _ c.in-Err.halt c.designators-test.true c.next-item.is c.in-Err.ensures c.designators.invariant

pub braces::pieces-pieces-preserved : goal.braces::pieces-pieces-preserved
braces::pieces-pieces-preserved t c =
    turns (answered (told_of c.args.around.now)) (λ (xs : List (ℕ × Piece)) (s : Filling) (m : Made). spec.pieces_in (context_of c.args.around.now) c.args.place (trees.pieces (seen.pieces_of xs)) s m) (λ (x : (ℕ × Piece)) (s : Filling) (m : Made). spec.piece_in (context_of c.args.around.now) c.args.place (seen.piece_of x.1) s m) (λ x xs s m. refl) c.deref-pair-items.result.now c.pieces.pair-index c.pair-item.result (c.pieces.filling) (c.piece.new.filling) c.pieces.made c.piece.new.made _ c.pieces-test.true c.pair-item.is c.in-Ok.ensures c.pieces.invariant

pub braces::pieces-returns-in-Err : goal.braces::pieces-returns-in-Err
braces::pieces-returns-in-Err t c =
    halts (answered (told_of c.args.around.now)) (λ (xs : List (ℕ × Piece)) (s : Filling) (m : Made). spec.pieces_in (context_of c.args.around.now) c.args.place (trees.pieces (seen.pieces_of xs)) s m) (λ (x : (ℕ × Piece)) (s : Filling) (m : Made). spec.piece_in (context_of c.args.around.now) c.args.place (seen.piece_of x.1) s m) (λ x xs s m. refl) c.deref-pair-items.result.now c.pieces.pair-index c.pair-item.result (c.pieces.filling) c.pieces.made _ c.in-Err.halt c.pieces-test.true c.pair-item.is c.in-Err.ensures c.pieces.invariant

pub naming::specified-specifiers-preserved : goal.naming::specified-specifiers-preserved
naming::specified-specifiers-preserved t c =
    turns (answered (told_of c.args.around.now)) (λ (xs : List Specifier) (s : Gathered) (m : Made). spec.specifiers (context_of c.args.around.now) c.args.place (trees.specifyings (seen.specifiers_of xs) trees.No_specifiers) s m) (λ (x : Specifier) (s : Gathered) (m : Made). spec.specifier (context_of c.args.around.now) c.args.place (seen.specifier_of x) s m) (λ x xs s m. refl) c.deref-next-items.result.now c.specifiers.next-index c.next-item.result (c.specifiers.gathered) (c.specifier.new.gathered) c.specifiers.made c.specifier.new.made _ c.specifiers-test.true c.next-item.is c.in-Ok.ensures c.specifiers.invariant

pub naming::specified-returns-in-Err : goal.naming::specified-returns-in-Err
naming::specified-returns-in-Err t c =
    halts (answered (told_of c.args.around.now)) (λ (xs : List Specifier) (s : Gathered) (m : Made). spec.specifiers (context_of c.args.around.now) c.args.place (trees.specifyings (seen.specifiers_of xs) trees.No_specifiers) s m) (λ (x : Specifier) (s : Gathered) (m : Made). spec.specifier (context_of c.args.around.now) c.args.place (seen.specifier_of x) s m) (λ x xs s m. refl) c.deref-next-items.result.now c.specifiers.next-index c.next-item.result (c.specifiers.gathered) c.specifiers.made _ c.in-Err.halt c.specifiers-test.true c.next-item.is c.in-Err.ensures c.specifiers.invariant

pub naming::derivings-derivings-preserved : goal.naming::derivings-derivings-preserved
naming::derivings-derivings-preserved t c =
    turns (answered (told_of c.args.around.now)) (λ (xs : List Deriving) (s : (List Step)) (m : Made). spec.derivings (context_of c.args.around.now) c.args.place (trees.derivings (seen.derivings_of xs) trees.No_derivings) s m) (λ (x : Deriving) (s : (List Step)) (m : Made). follow (spec.derivation (context_of c.args.around.now) (protos.nearest c.args.place s) (seen.deriving_of x) m) (λ d. gives (d ∷ s))) (λ x xs s m. refl) c.deref-next-items.result.now c.derivings.next-index c.next-item.result (c.derivings.steps) (c.add_deriving.new.steps) c.derivings.made c.add_deriving.new.made _ c.derivings-test.true c.next-item.is c.in-Ok.ensures c.derivings.invariant

pub naming::derivings-returns-in-Err : goal.naming::derivings-returns-in-Err
naming::derivings-returns-in-Err t c =
    halts (answered (told_of c.args.around.now)) (λ (xs : List Deriving) (s : (List Step)) (m : Made). spec.derivings (context_of c.args.around.now) c.args.place (trees.derivings (seen.derivings_of xs) trees.No_derivings) s m) (λ (x : Deriving) (s : (List Step)) (m : Made). follow (spec.derivation (context_of c.args.around.now) (protos.nearest c.args.place s) (seen.deriving_of x) m) (λ d. gives (d ∷ s))) (λ x xs s m. refl) c.deref-next-items.result.now c.derivings.next-index c.next-item.result (c.derivings.steps) c.derivings.made _ c.in-Err.halt c.derivings-test.true c.next-item.is c.in-Err.ensures c.derivings.invariant

pub naming::add_entries-entries-preserved : goal.naming::add_entries-entries-preserved
naming::add_entries-entries-preserved t c =
    turns (answered (told_of c.args.around.now)) (λ (xs : List (ℕ × TypeName)) (s : (List (Option Typed))) (m : Made). entries.stacked (context_of c.args.around.now) c.args.place (trees.row (seen.parameter_row_of xs) trees.No_more) s m) (λ (x : (ℕ × TypeName)) (s : (List (Option Typed))) (m : Made). follow (spec.entry (context_of c.args.around.now) c.args.place (seen.type_of x.1) false m) (λ t. gives (t ∷ s))) (λ x xs s m. refl) c.deref-pair-items.result.now c.entries.pair-index c.pair-item.result (c.entries.types) (c.add_entry.new.types) c.entries.made c.add_entry.new.made _ c.entries-test.true c.pair-item.is c.in-Ok.ensures c.entries.invariant

pub naming::add_entries-returns-in-Err : goal.naming::add_entries-returns-in-Err
naming::add_entries-returns-in-Err t c =
    halts (answered (told_of c.args.around.now)) (λ (xs : List (ℕ × TypeName)) (s : (List (Option Typed))) (m : Made). entries.stacked (context_of c.args.around.now) c.args.place (trees.row (seen.parameter_row_of xs) trees.No_more) s m) (λ (x : (ℕ × TypeName)) (s : (List (Option Typed))) (m : Made). follow (spec.entry (context_of c.args.around.now) c.args.place (seen.type_of x.1) false m) (λ t. gives (t ∷ s))) (λ x xs s m. refl) c.deref-pair-items.result.now c.entries.pair-index c.pair-item.result (c.entries.types) c.entries.made _ c.in-Err.halt c.entries-test.true c.pair-item.is c.in-Err.ensures c.entries.invariant

pub expressions::judged-returns-in-Name : goal.expressions::judged-returns-in-Name
expressions::judged-returns-in-Name t c =
    subst (λ x. Comes (told_of c.args.around.now) (spec.judge (context_of c.args.around.now) c.args.place x c.args.made.now) (λ j. j) c.identifier.result c.identifier.new.made) (sym (layers.expr_name c.args.expr.now c.in-Name.at c.in-Name.is))
    c.identifier.ensures

pub expressions::judged-returns-in-Constant : goal.expressions::judged-returns-in-Constant
expressions::judged-returns-in-Constant t c =
    subst (λ x. Comes (told_of c.args.around.now) (spec.judge (context_of c.args.around.now) c.args.place x c.args.made.now) (λ j. j) c.constant.result c.constant.new.made) (sym (layers.expr_constant c.args.expr.now c.in-Constant.at c.in-Constant.is))
    c.constant.ensures

pub expressions::judged-returns-in-Text : goal.expressions::judged-returns-in-Text
expressions::judged-returns-in-Text t c =
    subst (λ x. Comes (told_of c.args.around.now) (spec.judge (context_of c.args.around.now) c.args.place x c.args.made.now) (λ j. j) c.text.result c.text.new.made) (sym (layers.expr_text c.args.expr.now c.in-Text.pieces c.in-Text.is))
    (subst (λ ns. Comes (told_of c.args.around.now) (spec.judge (context_of c.args.around.now) c.args.place (trees.Text_of ns) c.args.made.now) (λ j. j) c.text.result c.text.new.made) c.as_slice.ensures.value c.text.ensures)

pub expressions::judged-returns-in-Paren : goal.expressions::judged-returns-in-Paren
expressions::judged-returns-in-Paren t c =
    subst (λ x. Comes (told_of c.args.around.now) (spec.judge (context_of c.args.around.now) c.args.place x c.args.made.now) (λ j. j) c.paren.result c.paren.new.made) (sym (layers.expr_paren c.args.expr.now c.in-Paren.at c.in-Paren.inner c.in-Paren.field-2 c.in-Paren.is))
    (subst (λ e. Comes (told_of c.args.around.now) (spec.judge (context_of c.args.around.now) c.args.place (trees.Paren_of c.in-Paren.at (seen.tree_of e) c.in-Paren.field-2) c.args.made.now) (λ j. j) c.paren.result c.paren.new.made) c.deref.ensures c.paren.ensures)

pub expressions::judged-returns-in-OfType : goal.expressions::judged-returns-in-OfType
expressions::judged-returns-in-OfType t c =
    subst (λ x. Comes (told_of c.args.around.now) (spec.judge (context_of c.args.around.now) c.args.place x c.args.made.now) (λ j. j) c.size_of_type.result c.size_of_type.new.made) (sym (layers.expr_of_type c.args.expr.now c.in-OfType.at c.in-OfType.field-1 c.in-OfType.name c.in-OfType.field-3 c.in-OfType.is))
    (subst (λ e. Comes (told_of c.args.around.now) (spec.judge (context_of c.args.around.now) c.args.place (trees.Of_type c.in-OfType.at c.in-OfType.field-1 (seen.type_of e) c.in-OfType.field-3) c.args.made.now) (λ j. j) c.size_of_type.result c.size_of_type.new.made) c.deref-in-OfType.ensures c.size_of_type.ensures)

pub postfix::suffix-returns-in-Index : goal.postfix::suffix-returns-in-Index
postfix::suffix-returns-in-Index t c =
    subst (λ x. Comes (told_of c.args.around.now) (spec.behind (context_of c.args.around.now) c.args.place x c.args.operand c.args.made.now) (λ j. j) c.index.result c.index.new.made) (sym (layers.suffix_index c.args.suffix.now c.in-Index.at c.in-Index.inner c.in-Index.field-2 c.in-Index.is))
    (subst (λ e. Comes (told_of c.args.around.now) (spec.behind (context_of c.args.around.now) c.args.place (trees.Index_of c.in-Index.at (seen.tree_of e) c.in-Index.field-2) c.args.operand c.args.made.now) (λ j. j) c.index.result c.index.new.made) c.deref.ensures c.index.ensures)

pub postfix::suffix-returns-in-Call : goal.postfix::suffix-returns-in-Call
postfix::suffix-returns-in-Call t c =
    subst (λ x. Comes (told_of c.args.around.now) (spec.behind (context_of c.args.around.now) c.args.place x c.args.operand c.args.made.now) (λ j. j) c.call.result c.call.new.made) (sym (layers.suffix_call c.args.suffix.now c.in-Call.at c.in-Call.field-1 c.in-Call.is))
    c.call.ensures

pub postfix::suffix-returns-in-Member : goal.postfix::suffix-returns-in-Member
postfix::suffix-returns-in-Member t c =
    subst (λ x. Comes (told_of c.args.around.now) (spec.behind (context_of c.args.around.now) c.args.place x c.args.operand c.args.made.now) (λ j. j) c.access.result c.access.new.made) (sym (layers.suffix_member c.args.suffix.now c.in-Member.at c.in-Member.name c.in-Member.is))
    c.access.ensures

pub postfix::suffix-returns-in-Step : goal.postfix::suffix-returns-in-Step
postfix::suffix-returns-in-Step t c =
    subst (λ x. Comes (told_of c.args.around.now) (spec.behind (context_of c.args.around.now) c.args.place x c.args.operand c.args.made.now) (λ j. j) c.step.result c.step.new.made) (sym (layers.suffix_step c.args.suffix.now c.in-Step.at c.in-Step.is))
    c.step.ensures

pub unary::prefix_waits-returns-in-Cast : goal.unary::prefix_waits-returns-in-Cast
unary::prefix_waits-returns-in-Cast t c =
    subst (λ x. Comes (told_of c.args.around.now) (waits.await (context_of c.args.around.now) c.args.place.now x c.args.waiting.now c.args.made.now) (λ _. (c.args.place.now, c.cast_waits.new.waiting)) c.cast_waits.result c.cast_waits.new.made) (sym (layers.prefix_cast c.args.prefix.now c.in-Cast.at c.in-Cast.name c.in-Cast.field-2 c.in-Cast.is))
    (subst (λ e. Comes (told_of c.args.around.now) (waits.await (context_of c.args.around.now) c.args.place.now (trees.Cast_of c.in-Cast.at (seen.type_of e) c.in-Cast.field-2) c.args.waiting.now c.args.made.now) (λ _. (c.args.place.now, c.cast_waits.new.waiting)) c.cast_waits.result c.cast_waits.new.made) c.deref.ensures c.cast_waits.ensures)

pub offsets::step-returns-in-Index : goal.offsets::step-returns-in-Index
offsets::step-returns-in-Index t c =
    subst (λ x. Comes (told_of c.args.around.now) (spec.step_to (context_of c.args.around.now) c.args.place x c.args.way.now c.args.made.now) (λ _. c.index.new.way) c.index.result c.index.new.made) (sym (layers.suffix_index c.args.next.now c.in-Index.field-0 c.in-Index.inner c.in-Index.field-2 c.in-Index.is))
    (subst (λ e. Comes (told_of c.args.around.now) (spec.step_to (context_of c.args.around.now) c.args.place (trees.Index_of c.in-Index.field-0 (seen.tree_of e) c.in-Index.field-2) c.args.way.now c.args.made.now) (λ _. c.index.new.way) c.index.result c.index.new.made) c.deref.ensures c.index.ensures)

pub braces::designator-returns-in-Element : goal.braces::designator-returns-in-Element
braces::designator-returns-in-Element t c =
    subst (λ x. Comes (told_of c.args.around.now) (spec.designator_in (context_of c.args.around.now) c.args.place x c.args.filling.now c.args.made.now) (λ _. c.element.new.filling) c.element.result c.element.new.made) (sym (layers.designator_element c.args.designator.now c.in-Element.opening c.in-Element.index c.in-Element.field-2 c.in-Element.is))
    c.element.ensures

pub braces::initial-returns-in-Value : goal.braces::initial-returns-in-Value
braces::initial-returns-in-Value t c =
    subst (λ x. Comes (told_of c.args.around.now) (spec.initial (context_of c.args.around.now) c.args.place x c.args.filling.now c.args.made.now) (λ _. c.value.new.filling) c.value.result c.value.new.made) (sym (layers.init_value c.args.init.now c.in-Value.expr c.in-Value.is))
    c.value.ensures

pub braces::initial-returns-in-List : goal.braces::initial-returns-in-List
braces::initial-returns-in-List t c =
    subst (λ x. Comes (told_of c.args.around.now) (spec.initial (context_of c.args.around.now) c.args.place x c.args.filling.now c.args.made.now) (λ _. c.braces.new.filling) c.braces.result c.braces.new.made) (sym (layers.init_list c.args.init.now c.in-List.list c.in-List.is))
    (subst (λ e. Comes (told_of c.args.around.now) (spec.initial (context_of c.args.around.now) c.args.place (trees.List_of (seen.braces_of e)) c.args.filling.now c.args.made.now) (λ _. c.braces.new.filling) c.braces.result c.braces.new.made) c.deref.ensures c.braces.ensures)

pub braces::piece-returns-in-Plain : goal.braces::piece-returns-in-Plain
braces::piece-returns-in-Plain t c =
    subst (λ x. Comes (told_of c.args.around.now) (spec.piece_in (context_of c.args.around.now) c.args.place x c.args.filling.now c.args.made.now) (λ _. c.initial.new.filling) c.initial.result c.initial.new.made) (sym (layers.piece_plain c.args.piece.now c.in-Plain.init c.in-Plain.is))
    c.initial.ensures

pub naming::specifier-returns-in-Atomic : goal.naming::specifier-returns-in-Atomic
naming::specifier-returns-in-Atomic t c =
    subst (λ x. Comes (told_of c.args.around.now) (spec.specifier (context_of c.args.around.now) c.args.place x c.args.gathered.now c.args.made.now) (λ _. c.atomic.new.gathered) c.atomic.result c.atomic.new.made) (sym (layers.specifier_atomic c.args.specifier.now c.in-Atomic.keyword c.in-Atomic.field-1 c.in-Atomic.name c.in-Atomic.field-3 c.in-Atomic.is))
    (subst (λ e. Comes (told_of c.args.around.now) (spec.specifier (context_of c.args.around.now) c.args.place (trees.Atomic_of c.in-Atomic.keyword c.in-Atomic.field-1 (seen.type_of e) c.in-Atomic.field-3) c.args.gathered.now c.args.made.now) (λ _. c.atomic.new.gathered) c.atomic.result c.atomic.new.made) c.deref.ensures c.atomic.ensures)

pub naming::bound-returns-in-StaticSized : goal.naming::bound-returns-in-StaticSized
naming::bound-returns-in-StaticSized t c =
    subst (λ x. Comes (told_of c.args.around.now) (spec.bound (context_of c.args.around.now) c.args.place c.args.opening x c.args.made.now) (λ s. s) c.sized_array-in-StaticSized.result c.sized_array-in-StaticSized.new.made) (sym (layers.bound_static_sized c.args.bound.now c.in-StaticSized.field-0 c.in-StaticSized.words c.in-StaticSized.size c.in-StaticSized.is))
    (subst (λ e. Comes (told_of c.args.around.now) (spec.bound (context_of c.args.around.now) c.args.place c.args.opening (trees.Static_sized_of c.in-StaticSized.field-0 c.in-StaticSized.words.items (seen.tree_of e)) c.args.made.now) (λ s. s) c.sized_array-in-StaticSized.result c.sized_array-in-StaticSized.new.made) c.deref-in-StaticSized.ensures c.sized_array-in-StaticSized.ensures)

pub naming::bound-returns-in-SizedStatic : goal.naming::bound-returns-in-SizedStatic
naming::bound-returns-in-SizedStatic t c =
    subst (λ x. Comes (told_of c.args.around.now) (spec.bound (context_of c.args.around.now) c.args.place c.args.opening x c.args.made.now) (λ s. s) c.sized_array-in-SizedStatic.result c.sized_array-in-SizedStatic.new.made) (sym (layers.bound_sized_static c.args.bound.now c.in-SizedStatic.words c.in-SizedStatic.field-1 c.in-SizedStatic.size c.in-SizedStatic.is))
    (subst (λ e. Comes (told_of c.args.around.now) (spec.bound (context_of c.args.around.now) c.args.place c.args.opening (trees.Sized_static_of c.in-SizedStatic.words.items c.in-SizedStatic.field-1 (seen.tree_of e)) c.args.made.now) (λ s. s) c.sized_array-in-SizedStatic.result c.sized_array-in-SizedStatic.new.made) c.deref-in-SizedStatic.ensures c.sized_array-in-SizedStatic.ensures)

pub naming::derivation-returns-in-Function : goal.naming::derivation-returns-in-Function
naming::derivation-returns-in-Function t c =
    subst (λ x. Comes (told_of c.args.around.now) (spec.derivation (context_of c.args.around.now) c.args.place x c.args.made.now) (λ s. s) c.prototype.result c.prototype.new.made) (sym (layers.derivation_function c.args.next.now c.in-Function.field-0 c.in-Function.list c.in-Function.field-2 c.in-Function.is))
    c.prototype.ensures

pub naming::group-returns-in-Grouped : goal.naming::group-returns-in-Grouped
naming::group-returns-in-Grouped t c =
    subst (λ x. Comes (told_of c.args.around.now) (spec.grouping (context_of c.args.around.now) c.args.place x c.args.made.now) (λ ss. ss) c.declarator.result c.declarator.new.made) (sym (layers.group_grouped c.args.group.now c.in-Grouped.field-0 c.in-Grouped.inner c.in-Grouped.field-2 c.in-Grouped.is))
    (subst (λ e. Comes (told_of c.args.around.now) (spec.grouping (context_of c.args.around.now) c.args.place (trees.Group_of c.in-Grouped.field-0 (seen.declarator_of e) c.in-Grouped.field-2) c.args.made.now) (λ ss. ss) c.declarator.result c.declarator.new.made) c.deref.ensures c.declarator.ensures)

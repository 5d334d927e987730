-- What a reader finds is what the grammar says.
use Rattle.std.proofs.Common.{inl, inr, ◌≡◌, refl, ap, sym, ◌∙◌, subst, ◌⊎◌, arith, Bool, true, false, List, [], Option, Some, None, if◌then◌else◌}
use Rattle.tok_data.specs.declared.faults.PpFault.{PpFault}
use Rattle.tok_data.specs.declared.tokens.OutToken.{OutToken}
use Rattle.macro_expand.specs.Expansion.{Definitions}
use Rattle.pp_cond.specs.declared.numbers.Number.{Number}
use Rattle.pp_cond.specs.declared.symbols.Symbol.{Symbol}
use Rattle.pp_cond.specs.declared.types.Truth.{Truth}
use Rattle.pp_cond.specs.declared.types.Truth.TheVariants.{Bad}
use Rattle.tok_data.specs.declared.sources.TokId.{TokId}
use Rattle.macro_expand.specs.declared.types.Expanded.{Expanded}
use Rattle.pp_cond.specs.Conditions.{IsTruth, IsDecided, IsAnswer, truth_of, truth_by, truth, has_error, found}
use Rattle.pp_cond.specs.Defined.{symbols}
use Rattle.pp_cond.specs.Grammar.{Tree, Constant_of, Paren_of, Unary_of, Binary_of, Choice_of, Comma_of, spell, Proper, IsExpression, value}
use Rattle.pp_cond.specs.Machine.{run, at_first}
use Rattle.pp_cond.proofs.Reading.{tree_is_read}
use Rattle.pp_cond.proofs.Finding.{Whole, runs_whole}

-- a tree is a conditional-expression, or a comma is evaluated
tree_or_bad : (ss : List Symbol) → (t : Tree) → Proper t → spell t ≡ ss
    → ((u : Tree) × IsExpression ss u) ⊎ (truth_of (value t).value ≡ Bad)
tree_or_bad ss (Constant_of v) p h = inl (Constant_of v, record { whole = omega arith; proper = p; spells = h })
tree_or_bad ss (Paren_of t) p h = inl (Paren_of t, record { whole = omega arith; proper = p; spells = h })
tree_or_bad ss (Unary_of m t) p h = inl (Unary_of m t, record { whole = omega arith; proper = p; spells = h })
tree_or_bad ss (Binary_of m a b) p h =
    inl (Binary_of m a b, record { whole = omega (arith, p.0); proper = p; spells = h })
tree_or_bad ss (Choice_of c a b) p h = inl (Choice_of c a b, record { whole = omega arith; proper = p; spells = h })
tree_or_bad ss (Comma_of a b) p h = inr refl

whole_or_bad : (ss : List Symbol) → (v : Number) → Whole ss v → ((u : Tree) × IsExpression ss u) ⊎ (found (Some v) ≡ Bad)
whole_or_bad ss v w =
    subst (λ x. ((u : Tree) × IsExpression ss u) ⊎ (truth_of x.value ≡ Bad)) (sym w.value)
    (tree_or_bad ss w.tree w.proper w.spells)

found_or_bad : (ss : List Symbol) → (o : Option Number) → run at_first ss ≡ o
    → ((u : Tree) × IsExpression ss u) ⊎ (found o ≡ Bad)
found_or_bad ss None h = inr refl
found_or_bad ss (Some v) h = whole_or_bad ss v (runs_whole ss at_first [] v refl h)

pub says : (ss : List Symbol) → IsTruth ss (found (run at_first ss))
says ss = record {
  only = λ t e. ap (λ x. found (run at_first x)) (sym e.spells) ∙ ap found (tree_is_read t e.proper);
  otherwise = found_or_bad ss (run at_first ss) refl;
}

clash : true ≡ false → ⊥
clash e = cc

decided : (table : Definitions) → (faults : List PpFault) → (tokens : List OutToken) → (b : Bool) → has_error faults ≡ b
    → IsDecided table faults tokens (if b then Bad else found (run at_first (symbols table tokens)))
decided table faults tokens true h = record { bad = λ e. refl; valued = λ e. absurd (clash (sym h ∙ e)) }
decided table faults tokens false h = record {
  bad = λ e. absurd (clash (sym e ∙ h));
  valued = λ e. says (symbols table tokens);
}

answer_by : (table : Definitions) → (e : Expanded) → (asked : Option TokId) → IsAnswer table e asked (truth_by table e asked)
answer_by table e (Some site) = refl
answer_by table e None = decided table e.faults e.tokens (has_error e.faults) refl

pub answers : (table : Definitions) → (e : Expanded) → (t : Truth) → t ≡ truth table e → IsAnswer table e e.asked t
answers table e t h = subst (λ x. IsAnswer table e e.asked x) (sym h) (answer_by table e e.asked)

-- What an expression means (ISO C11 6.5): first its identifiers are asked for, in one list, and then it is judged.
use Rattle.std.specs.Prelude.{◌≡◌, ℕ, ◌+◌, ◌-◌, Bool, true, false, List, [], ◌∷◌, drop, take}
use Rattle.asking.specs.Asking.{Asking, Gives, and_then, asks_all}
use Rattle.asking.specs.LookUps.{Ends, Looked, Needs}
use Rattle.scope_tables.specs.Levels.{Scope}
use Rattle.scope_tables.specs.Scopes.{innermost_kind}
use Rattle.tok_data.specs.declared.tokens.OutToken.{OutToken}
use Rattle.tree_data.specs.Trees.{Tree}
use Rattle.type_data.specs.declared.judged.Judged.{Judged}
use Rattle.type_data.specs.declared.names.ItemName.{ItemName}
use Rattle.type_rel.specs.Kinds.{Tagging}
use Rattle.elab_core.specs.declared.meaning.ExprMeaning.{ExprMeaning}
use Rattle.elab_state.specs.declared.wants.Wanted.{Wanted}
use Rattle.elab_state.specs.declared.wants.Elab.{Elab}
use Rattle.elab_state.specs.declared.wants.Elab.TheVariants as elab
use Rattle.elab_state.specs.declared.made.Made.{Made}
use Rattle.elab_state.specs.Doings.{begun}
pub use Rattle.elab_state.specs.Doings.{or_file}
use Rattle.elab_core.specs.Ends.{first_of, last_of}
use Rattle.elab_core.specs.Expressions.{judge}
use Rattle.elab_state.specs.Contexts.{Context}
use Rattle.elab_state.specs.Asked.{identifiers}
use Rattle.scope_tables.specs.Files.{text_of}
use Rattle.elab_state.specs.Wants.{wants}

-- the tokens of an expression
abbrev pub own_tokens : Tree → List OutToken → List OutToken
own_tokens t tokens = take ((last_of t + 1) - first_of t) (drop (first_of t) tokens)

abbrev pub context : ItemName → List OutToken → List Scope → Context
context item tokens outside = record { item = item; file = text_of item; tokens = tokens; base = 0; outside = outside }

abbrev pub meaning_of : Judged × Made → ExprMeaning
meaning_of r = record {
  judged = r.0;
  declared = r.1.declared;
  entities = r.1.entities;
  occs = r.1.occs;
  faults = r.1.faults;
  used = r.1.used;
}

abbrev pub judged_from : Context → Tree → Made → Asking wants ExprMeaning
judged_from c t m = and_then (judge c (record { counted = true; defining = false }) t m) (λ r. Gives (meaning_of r))

-- what the expression declares stands in a scope of its own, of the kind of the one round it; `tags` are what the item declared in front of it
abbrev pub judged_in : ItemName → List OutToken → Tree → List Scope → Tagging → Asking wants ExprMeaning
judged_in item tokens t outside tags = judged_from (context item tokens outside) t (begun (or_file (innermost_kind outside)) tags)

abbrev pub expr_meaning : ItemName → List OutToken → Tree → List Scope → Tagging → Asking wants ExprMeaning
expr_meaning item tokens t outside tags =
    asks_all (identifiers false (own_tokens t tokens)) (λ answers. judged_in item tokens t outside tags)

abbrev pub is_none : List Wanted → Bool
is_none [] = true
is_none (q ∷ qs) = false

-- one answer is wanted
abbrev pub needs : Wanted → Looked wants ExprMeaning
needs w = Needs (w ∷ [])

-- what a call says of the run of an expression's meaning over what was told
abbrev pub Means : Looked wants ExprMeaning → Elab ExprMeaning → Type 0
Means run (elab.Need asked) = run ≡ Needs asked
Means run (elab.Done meaning) = run ≡ Ends meaning

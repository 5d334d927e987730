-- What the head of an item means (ISO C11 6.7, 6.7.10, 6.9): first what its identifiers denote in front of it is asked for, in one list; then its
-- tokens, up to and with its `;` or the `{` of its body, are read and judged.
use Rattle.std.specs.Prelude.{ℕ, Bool, false, List, [], ◌∷◌, bytes_eq, codes, Option, None, Some, if◌then◌else◌}
use Rattle.asking.specs.Asking.{Asking, Gives, and_then, asks_all}
use Rattle.asking.specs.LookUps.{LookUp, run_by}
use Rattle.elab_core.specs.Declarations.{declaration}
use Rattle.elab_core.specs.Symbols.{symbols}
use Rattle.elab_core.specs.declared.declarations.Declaration.{Declaration}
use Rattle.elab_state.specs.Answering.{with_answers}
use Rattle.elab_state.specs.Contexts.{Context}
use Rattle.elab_state.specs.Doings.{begun, fault}
use Rattle.elab_state.specs.Wants.{wants}
use Rattle.elab_state.specs.declared.made.Made.{Made}
use Rattle.elab_state.specs.declared.wants.Elab.{Elab}
use Rattle.item_readings.specs.Readings.{Reader, IsReader, Reading, Tree, Refused, head_reading}
use Rattle.meaning_lists.specs.Found.{head_of}
use Rattle.meaning_lists.specs.declared.found.Found.{Found}
use Rattle.scope_tables.specs.declared.bindings.Binding.{Binding}
use Rattle.scope_tables.specs.declared.entities.ScopeKind.TheVariants.{File}
use Rattle.scope_tables.specs.declared.meanings.HeadMeaning.{HeadMeaning}
use Rattle.tok_data.specs.declared.tokens.OutToken.{OutToken}
use Rattle.tree_data.specs.Trees.{Heading}
use Rattle.type_data.specs.declared.judged.Fault.{Fault}
use Rattle.stmt_checks.specs.Meanings.{Means, answers_in, questions}
use Rattle.stmt_checks.specs.TypeNames.{type_names}

-- ---- what was found

abbrev pub or_none : Option (List Binding) → List Binding
or_none (Some bs) = bs
or_none None = []

abbrev pub found : Context → Declaration × Made → Found
found c r = record {
  declared = r.1.declared;
  params = or_none r.1.params;
  entities = r.1.entities;
  occs = r.1.occs;
  faults = r.1.faults;
  used = r.1.used;
  stated = r.0.stated;
  symbols = symbols c r.1;
  inline = r.0.inline;
}

-- nothing but a fault
abbrev pub only : Fault → Found
only f = record { declared = []; params = []; entities = []; occs = []; faults = f ∷ []; used = []; stated = []; symbols = []; inline = false }

-- ---- a head that was read, and one that wasn't

abbrev pub meaning_by : Context → Declaration × Made → Asking wants HeadMeaning
meaning_by c r = Gives (head_of c.item (found c r))

abbrev pub judged : Context → Heading → Made → Asking wants HeadMeaning
judged c h m = and_then (declaration c false h m) (meaning_by c)

abbrev pub refusal : Context → ℕ → ℕ → HeadMeaning
refusal c rule n = head_of c.item (only (fault rule n [] []))

abbrev pub by_reading : Context → Reading Heading → Made → Asking wants HeadMeaning
by_reading c (Tree h) m = judged c h m
by_reading c (Refused rule n) m = Gives (refusal c rule n)

-- ---- the whole, from where the answers stand in the scope of the file

-- a `;` alone (302)
unfoldable pub is_semicolon : OutToken → Bool
is_semicolon t = bytes_eq t.spelling (codes ";")

abbrev pub is_empty : List OutToken → Bool
is_empty [] = false
is_empty (t ∷ []) = is_semicolon t
is_empty (t ∷ u ∷ ts) = false

-- the tokens are read under the typedef names in force at their front
abbrev pub head_in : Reader → Context → Made → Asking wants HeadMeaning
head_in r c m = by_reading c (head_reading r (type_names m.names c.tokens) c.tokens) m

abbrev pub head_from : Reader → Context → Made → Asking wants HeadMeaning
head_from r c m = if is_empty c.tokens then Gives (refusal c 302 0) else head_in r c m

abbrev pub head_meaning : Reader → Context → Asking wants HeadMeaning
head_meaning r c = asks_all (questions c) (λ answers. head_from r c (with_answers (questions c) answers (begun File [])))

-- ---- what calls say of it, whoever reads

abbrev pub MeansHead : LookUp wants → Context → Elab HeadMeaning → Type 0
MeansHead look c elab = (r : Reader) → IsReader r → Means (run_by look (head_meaning r c)) elab

-- once all identifiers have these answers
abbrev pub MeansBehind : LookUp wants → LookUp wants → Context → Elab HeadMeaning → Type 0
MeansBehind names look c elab = (r : Reader) → IsReader r → Means (run_by look (head_from r c (answers_in names c))) elab

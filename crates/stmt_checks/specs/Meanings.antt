-- What the body of a function means (ISO C11 6.8, 6.9.1): first what its identifiers denote in front of it is asked for, in one list; then its
-- tokens are read and its steps are taken. The tokens of `c` are those of the body.
use Rattle.std.specs.Prelude.{ℕ, ◌≡◌, Bool, true, false, List, [], ◌∷◌, map}
use Rattle.asking.specs.Asking.{Asking, Gives, and_then, asks_all}
use Rattle.asking.specs.LookUps.{Ends, LookUp, Looked, Needs, run_by}
use Rattle.elab_state.specs.Answering.{with_answered, with_answers}
use Rattle.elab_state.specs.Asked.{identifiers}
use Rattle.elab_state.specs.Contexts.{Context, number}
use Rattle.elab_state.specs.Doings.{begun, fault, with_fault}
use Rattle.elab_state.specs.Wants.{wants}
use Rattle.elab_state.specs.declared.made.Made.{Made}
use Rattle.elab_state.specs.declared.wants.Elab.{Elab}
use Rattle.elab_state.specs.declared.wants.Wanted.{Wanted}
use Rattle.elab_state.specs.declared.wants.Elab.TheVariants.{Need, Done}
use Rattle.item_readings.specs.Readings.{Reader, IsReader, Reading, Tree, Refused, body_reading}
use Rattle.meaning_lists.specs.Found.{body_of}
use Rattle.meaning_lists.specs.declared.found.Found.{Found}
use Rattle.scope_tables.specs.Levels.{Scope}
use Rattle.scope_tables.specs.Scopes as scopes
use Rattle.scope_tables.specs.declared.entities.ScopeKind.TheVariants.{File, Function}
use Rattle.scope_tables.specs.declared.meanings.BodyMeaning.{BodyMeaning}
use Rattle.scope_tables.specs.declared.meanings.HeadMeaning.{HeadMeaning}
use Rattle.scope_tables.specs.Files.{text_of}
use Rattle.stmt_acts.specs.Acts.{Act}
use Rattle.stmt_acts.specs.Bodies.{body}
use Rattle.tok_data.specs.declared.tokens.OutToken.{OutToken}
use Rattle.tree_data.specs.Statements.{Statement}
use Rattle.type_data.specs.Types.{Ty}
use Rattle.type_data.specs.declared.judged.Fault.{Fault}
use Rattle.type_data.specs.declared.names.ItemName.{ItemName}
use Rattle.stmt_checks.specs.Acting.{Moving, all_acts}
use Rattle.stmt_checks.specs.Begun.{function_of, nothing, opened, type_of}
use Rattle.stmt_checks.specs.Labels.{all_labels}
use Rattle.stmt_checks.specs.Standings.{Standing, with_made}
use Rattle.stmt_checks.specs.TypeNames.{type_names}

-- ---- what was found: trees number faults, the item has its own numbers

abbrev pub renumbered : Context → Fault → Fault
renumbered c f = record f { at = number c f.at }

abbrev pub found : Context → Made → Found
found c m = record {
  declared = [];
  params = [];
  entities = m.entities;
  occs = m.occs;
  faults = map (renumbered c) m.faults;
  used = m.used;
  stated = [];
  symbols = [];
  inline = false;
}

abbrev pub meaning : Context → Made → BodyMeaning
meaning c m = body_of c.item (found c m)

-- ---- a body that was read: its steps, in a function of this type

abbrev pub function_type : HeadMeaning → Ty
function_type head = type_of (function_of head)

abbrev pub function_labels : Context → List Act → List Scope
function_labels c as' = all_labels c as' (scopes.entered Function [])

abbrev pub taken : Context → HeadMeaning → List Act → Standing → Moving
taken c head as' st = all_acts c (function_type head) (function_labels c as') as' st

abbrev pub checked : Context → HeadMeaning → Statement → Standing → Moving
checked c head s st = taken c head (body s) st

abbrev pub meaning_by : Context → Standing → Asking wants BodyMeaning
meaning_by c st = Gives (meaning c st.made)

abbrev pub judged : Context → HeadMeaning → Statement → Standing → Asking wants BodyMeaning
judged c head s st = and_then (checked c head s st) (meaning_by c)

-- ---- one that wasn't has that fault, and nothing else

abbrev pub refusal : Context → ℕ → ℕ → BodyMeaning
refusal c rule n = meaning c (with_fault (fault rule n [] []) (begun File []))

abbrev pub by_reading : Context → HeadMeaning → Reading Statement → Standing → Asking wants BodyMeaning
by_reading c head (Tree s) st = judged c head s st
by_reading c head (Refused rule n) st = Gives (refusal c rule n)

-- ---- the whole, from where the answers stand in the scope of the file

abbrev pub begun_with : Made → Standing
begun_with m = with_made m nothing

abbrev pub standing : Context → HeadMeaning → Made → Standing
standing c head m = opened c head (begun_with m)

-- the tokens are read under the typedef names in force at their front
abbrev pub read_by : Reader → Context → Standing → Reading Statement
read_by r c st = body_reading r (type_names st.made.names c.tokens) c.tokens

abbrev pub body_in : Reader → Context → HeadMeaning → Standing → Asking wants BodyMeaning
body_in r c head st = by_reading c head (read_by r c st) st

abbrev pub body_from : Reader → Context → HeadMeaning → Made → Asking wants BodyMeaning
body_from r c head m = body_in r c head (standing c head m)

abbrev pub questions : Context → List Wanted
questions c = identifiers false c.tokens

abbrev pub body_meaning : Reader → Context → HeadMeaning → Asking wants BodyMeaning
body_meaning r c head = asks_all (questions c) (λ answers. body_from r c head (with_answers (questions c) answers (begun File [])))

-- the body of this item, whose tokens begin at `base`
abbrev pub context : ItemName → List OutToken → ℕ → Context
context item tokens base = record { item = item; file = text_of item; tokens = tokens; base = base; outside = [] }

-- ---- what calls say of it, whoever reads

abbrev pub Means : {A : Type 0} → Looked wants A → Elab A → Type 0
Means run (Need asked) = run ≡ Needs asked
Means run (Done meaning) = run ≡ Ends meaning

abbrev pub MeansBody : LookUp wants → Context → HeadMeaning → Elab BodyMeaning → Type 0
MeansBody look c head elab = (r : Reader) → IsReader r → Means (run_by look (body_meaning r c head)) elab

-- once all identifiers have these answers
abbrev pub answers_in : LookUp wants → Context → Made
answers_in look c = with_answered look (questions c) (begun File [])

abbrev pub MeansBehind : LookUp wants → LookUp wants → Context → HeadMeaning → Elab BodyMeaning → Type 0
MeansBehind names look c head elab = (r : Reader) → IsReader r → Means (run_by look (body_from r c head (answers_in names c))) elab

abbrev pub is_none : List Wanted → Bool
is_none [] = true
is_none (q ∷ qs) = false

-- a run that ends so
abbrev pub ending : {A : Type 0} → A → Looked wants A
ending m = Ends m

-- The labels of a function (ISO C11 6.2.1p3, 6.8.1, 6.8.6.1): each is seen in the whole body, wherever it stands.
use Rattle.std.specs.Prelude.{ℕ, List, [], ◌∷◌, Option, Some, None}
use Rattle.scope_tables.specs.Levels.{Scope}
use Rattle.scope_tables.specs.Scopes.{declared_in, here}
use Rattle.scope_tables.specs.declared.bindings.Binding.{Binding}
use Rattle.scope_tables.specs.declared.entities.Anchor.{Anchor}
use Rattle.scope_tables.specs.declared.entities.Anchor.TheVariants as anchor
use Rattle.scope_tables.specs.declared.entities.Entity.{Entity}
use Rattle.scope_tables.specs.declared.entities.EntityKind.TheVariants as kind
use Rattle.scope_tables.specs.declared.entities.Life.TheVariants as life
use Rattle.scope_tables.specs.declared.entities.Linkage.TheVariants as linkage
use Rattle.scope_tables.specs.declared.entities.Role.TheVariants as role
use Rattle.elab_state.specs.Contexts.{Context, own_token}
use Rattle.elab_state.specs.Doings.{with_entity}
use Rattle.elab_state.specs.Names.{occurs}
use Rattle.elab_state.specs.Tokens.{spelling}
use Rattle.stmt_acts.specs.Acts.{Act, Enter, Leave, Evaluate, If_test, Loop_test, Switch_on, End_switch, Case_label, Default_label, Label, Goto, Continue, Break, Return, Declare, Declare_in_for}
use Rattle.stmt_rules.specs.Labels.{label_fault, goto_fault}
use Rattle.type_data.specs.declared.members.Space.TheVariants.{Labels}
use Rattle.type_rel.specs.Kinds.{unqualified}
use Rattle.type_data.specs.Types.{Bad_type}
use Rattle.stmt_checks.specs.Standings.{Standing, told, with_made}

abbrev pub anchor_of : Context → ℕ → Anchor
anchor_of c n = anchor.Local (own_token c n)

-- the label whose name is the token n
abbrev pub label : Context → ℕ → Entity
label c n = record {
  name = spelling c.tokens n;
  kind = kind.Label;
  ty = Bad_type;
  qual = unqualified;
  linkage = linkage.None;
  life = life.Without;
  value = None;
  anchor = anchor_of c n;
}

abbrev pub binding : Context → ℕ → Binding
binding c n = record { space = Labels; name = spelling c.tokens n; entity = label c n }

-- of two labels of one name the first counts
abbrev pub declared_label : Context → ℕ → List Scope → List Scope
declared_label c n ls = declared_in (binding c n) ls

abbrev pub unless_there : Option Entity → Context → ℕ → List Scope → List Scope
unless_there (Some e) c n ls = ls
unless_there None c n ls = declared_label c n ls

abbrev pub with_label : Context → ℕ → List Scope → List Scope
with_label c n ls = unless_there (here Labels (spelling c.tokens n) ls) c n ls

abbrev pub label_in : Act → Option ℕ
label_in Enter = None
label_in Leave = None
label_in (Evaluate t) = None
label_in (If_test k t) = None
label_in (Loop_test k t) = None
label_in (Switch_on k t) = None
label_in End_switch = None
label_in (Case_label k t) = None
label_in (Default_label k) = None
label_in (Label n) = Some n
label_in (Goto n) = None
label_in (Continue k w) = None
label_in (Break k w) = None
label_in (Return k e) = None
label_in (Declare d) = None
label_in (Declare_in_for d) = None

abbrev pub labelled_by : Context → Option ℕ → List Scope → List Scope
labelled_by c None ls = ls
labelled_by c (Some n) ls = with_label c n ls

-- all of a body
abbrev pub all_labels : Context → List Act → List Scope → List Scope
all_labels c [] ls = ls
all_labels c (a ∷ as') ls = all_labels c as' (labelled_by c (label_in a) ls)

-- ---- a label: the second of its name denotes the first

abbrev pub defined_first : Context → ℕ → Standing → Standing
defined_first c n st = record st { made = with_entity (label c n) (occurs c n (anchor_of c n) role.Defines st.made); labels = declared_label c n st.labels }

abbrev pub defined : Context → ℕ → Option Entity → Standing → Standing
defined c n (Some e) st = with_made (occurs c n e.anchor role.Defines st.made) st
defined c n None st = defined_first c n st

abbrev pub labelled : Context → ℕ → Standing → Standing
labelled c n st = defined c n (here Labels (spelling c.tokens n) st.labels) (told (label_fault n (spelling c.tokens n) st.labels) st)

-- ---- `goto`: `all` has all labels of the body

abbrev pub used : Context → ℕ → Option Entity → Standing → Standing
used c n (Some e) st = with_made (occurs c n e.anchor role.Uses st.made) st
used c n None st = st

abbrev pub jumped : Context → List Scope → ℕ → Standing → Standing
jumped c all n st = used c n (here Labels (spelling c.tokens n) all) (told (goto_fault n (spelling c.tokens n) all) st)

-- Declarations (ISO C11 6.7, 6.7.10, 6.9), of a file or of a block: specifiers, then declarators with their initializers in turn, or a static
-- assertion. Beside what is made stands what a `for` and the file ask of it.
use Rattle.std.specs.Prelude.{ℕ, Bool, true, false, ◌&&◌, ◌||◌, not, is_some, List, [], ◌∷◌, ◌++◌, Option, Some, None, if◌then◌else◌}
use Rattle.asking.specs.Asking.{Asking, Gives, and_then}
use Rattle.decl_rules.specs.declared.parts.DeclParts.{DeclParts}
use Rattle.decl_rules.specs.declared.parts.Storage.{Storage}
use Rattle.decl_rules.specs.declared.parts.Storage.TheVariants as storage
use Rattle.head_rules.specs.Bare.{declaration as bare_fault, is_enum}
use Rattle.head_rules.specs.declared.parts.BareParts.{BareParts}
use Rattle.scope_tables.specs.declared.entities.Entity.{Entity}
use Rattle.scope_tables.specs.declared.meanings.Stated.{Stated}
use Rattle.tree_data.specs.Trees.{Assertion, Assertion_of, Heading, Declares_of, Asserts_of, Declaring, Initial, Specifying, Tag_of, Specifyings, No_specifiers, Specifier_then, Word_of, Typedef_of, Atomic_of, Aligned_as_of, Aligned_of, Members_of, Enumerators_of}
use Rattle.type_rel.specs.Kinds.{is_bad}
use Rattle.elab_state.specs.Contexts.{Context}
use Rattle.elab_state.specs.declared.around.Where.{Where}
use Rattle.elab_state.specs.declared.made.Made.{Made}
use Rattle.elab_state.specs.Doings.{Doing, follow, gives, scope_kind}
use Rattle.elab_state.specs.Tokens.{spelling}
use Rattle.elab_state.specs.Wants.{wants}
use Rattle.elab_core.specs.Alone.{alone}
use Rattle.elab_core.specs.declared.declarations.Declaration.{Declaration}
use Rattle.elab_core.specs.declared.declarations.Walked.{Walked}
use Rattle.elab_core.specs.declared.shapes.Filling.{Filling}
use Rattle.elab_core.specs.declared.shapes.Gathered.{Gathered}
use Rattle.elab_core.specs.declared.shapes.Typed.{Typed}
use Rattle.elab_core.specs.Declarators.{begun, declarator, initialized, is_extern, parts, places, stated}
use Rattle.elab_core.specs.Ends.{name_of, specifiers_begin}
use Rattle.elab_core.specs.Expressions.{assertion, based, derived_by, initial}
use Rattle.elab_core.specs.Notes.{noted}
use Rattle.elab_core.specs.Specifiers.{is_function, no_type}
use Rattle.elab_core.specs.Tags.{keyword_kind}

abbrev pub evaluated : Where
evaluated = record { counted = true; defining = false }

-- in the declarator of a function definition
abbrev pub declaring : Bool → Where
declaring body = record { counted = true; defining = body }

-- ---- what is told of a declaration

abbrev pub no_declarator : Walked
no_declarator = record { stated = []; function = false }

abbrev pub with_stated : Option Stated → List Stated → List Stated
with_stated None ss = ss
with_stated (Some s) ss = ss ++ s ∷ []

abbrev pub declarator_more : Context → DeclParts → Option Entity → Walked → Walked
declarator_more c d e w = record { stated = with_stated (stated c d e) w.stated; function = w.function || is_function d.ty }

abbrev pub told : Specifyings → Gathered → Walked → Declaration
told ss g w = record {
  first = specifiers_begin ss;
  storage = g.storage;
  storage_at = g.storage_at;
  thread = g.thread_at;
  inline = g.inline && not (is_extern g.storage);
  function = w.function;
  stated = w.stated;
}

-- of a tag alone, and of a static assertion, whose first token is k
abbrev pub told_of_nothing : ℕ → Declaration
told_of_nothing k = record { first = k; storage = storage.None; storage_at = None; thread = None; inline = false; function = false; stated = [] }

-- ---- without a declarator (6.7p2)

abbrev pub if_auto : Storage → Option ℕ → Option ℕ
if_auto storage.Auto at = at
if_auto storage.Register at = at
if_auto storage.None at = None
if_auto storage.Typedef at = None
if_auto storage.Extern at = None
if_auto storage.Static at = None

abbrev pub bare_parts : Specifyings → Gathered → Typed → Made → BareParts
bare_parts ss g ty m = record {
  specified = g.specified;
  faulty = is_bad ty.ty;
  scope = scope_kind m;
  at = specifiers_begin ss;
  storage_at = if_auto g.storage g.storage_at;
  function_at = g.function_at;
}

abbrev pub bare : Specifyings → Gathered → Typed → Made → Made
bare ss g ty m = noted (bare_fault (bare_parts ss g ty m)) m

-- ---- one declarator: what its name denotes, and then its initializer; of what was refused that is judged all the same

abbrev pub filled : Context → Initial → Option Entity → Made → Doing Filling
filled c i e m = follow (begun c e m) (λ f now. initial c evaluated i f now)

abbrev pub initialized_by : Context → Option Initial → Option Entity → Made → Asking wants Made
initialized_by c None e m = Gives m
initialized_by c (Some i) e m = and_then (filled c i e m) (λ r. Gives (initialized e r.0 r.1))

abbrev pub with_initial : Context → Option Initial → DeclParts → Walked → Option Entity → Made → Doing Walked
with_initial c i d w e m = and_then (initialized_by c i e m) (λ now. gives (declarator_more c d e w) now)

abbrev pub declared_as : Context → Specifyings → Gathered → Option Initial → DeclParts → Walked → Made → Doing Walked
declared_as c ss g i d w m = follow (declarator c (places (specifiers_begin ss) g) d.at d m) (λ e now. with_initial c i d w e now)

-- a declarator of a declaration has a name; that of a function definition has a list of parameters next to it where these are told (6.9.1p2)
abbrev pub named : Context → Specifyings → Gathered → Bool → Option Initial → Option ℕ → Typed → Walked → Made → Doing Walked
named c ss g body i (Some n) t w m = declared_as c ss g i (parts c g n t (is_some i) body (is_some m.params) (scope_kind m)) w m
named c ss g body i None t w m = gives w m

abbrev pub one : Context → Specifyings → Gathered → Typed → Bool → Declaring × Option Initial → Walked → Made → Doing Walked
one c ss g ty body x w m = follow (derived_by c (declaring body) (specifiers_begin ss) ty x.0 m) (λ t now. named c ss g body x.1 (name_of x.0) t w now)

abbrev pub all : Context → Specifyings → Gathered → Typed → Bool → List (Declaring × Option Initial) → Walked → Made → Doing Walked
all c ss g ty body [] w m = gives w m
all c ss g ty body (x ∷ xs) w m = follow (one c ss g ty body x w m) (λ v now. all c ss g ty body xs v now)

-- ---- the whole

-- 6.7p2: what has no declarator declares a tag or enumerators
abbrev pub without : Specifyings → Gathered → Typed → List (Declaring × Option Initial) → Made → Made
without ss g ty [] m = bare ss g ty m
without ss g ty (x ∷ xs) m = m

abbrev pub walked_from : Context → Specifyings → List (Declaring × Option Initial) → Bool → Gathered → Typed → Walked → Made → Doing Declaration
walked_from c ss ds body g ty w m = follow (all c ss g ty body ds w m) (λ v now. gives (told ss g v) now)

abbrev pub walked : Context → Specifyings → List (Declaring × Option Initial) → Bool → Gathered → Typed → Made → Doing Declaration
walked c ss ds body g ty m = walked_from c ss ds body g ty no_declarator m

abbrev pub declarators : Context → Specifyings → List (Declaring × Option Initial) → Bool → Gathered → Typed → Made → Doing Declaration
declarators c ss ds body g ty m = walked c ss ds body g ty (without ss g ty ds m)

-- 6.8.5p3: in the first part of a `for` these are told for the whole, and its declarators have a faulty part
abbrev pub is_barred : Storage → Bool
is_barred storage.Static = true
is_barred storage.Extern = true
is_barred storage.Typedef = true
is_barred storage.None = false
is_barred storage.Auto = false
is_barred storage.Register = false

abbrev pub typed_in : Bool → Gathered → Typed → Typed
typed_in in_for g t = if in_for && (is_barred g.storage || is_some g.thread_at) then no_type else t

abbrev pub specified : Context → Bool → Specifyings → List (Declaring × Option Initial) → Bool → Made → Doing Declaration
specified c in_for ss ds body m = follow (based c evaluated ss m) (λ b now. declarators c ss ds body b.0 (typed_in in_for b.0 b.1) now)

-- 6.7.2.3p7: a structure's or union's tag alone
abbrev pub holds_alone : Context → ℕ → ℕ → Option (ℕ × ℕ)
holds_alone c k n = if is_enum (keyword_kind (spelling c.tokens k)) then None else Some (k, n)

abbrev pub tag_of : Context → Specifying → Option (ℕ × ℕ)
tag_of c (Tag_of k n) = holds_alone c k n
tag_of c (Word_of n) = None
tag_of c (Typedef_of n) = None
tag_of c (Atomic_of k o t e) = None
tag_of c (Aligned_as_of k o t e) = None
tag_of c (Aligned_of k o t e) = None
tag_of c (Members_of k n o ms e) = None
tag_of c (Enumerators_of k n o x xs t e) = None

abbrev pub only_tag : Context → Specifyings → Option (ℕ × ℕ)
only_tag c No_specifiers = None
only_tag c (Specifier_then s No_specifiers) = tag_of c s
only_tag c (Specifier_then s (Specifier_then t ss)) = None

abbrev pub lone_tag : Context → Specifyings → List (Declaring × Option Initial) → Option (ℕ × ℕ)
lone_tag c ss [] = only_tag c ss
lone_tag c ss (x ∷ xs) = None

abbrev pub alone_told : Context → ℕ → ℕ → Made → Doing Declaration
alone_told c k n m = and_then (alone c k n m) (λ now. gives (told_of_nothing k) now)

abbrev pub declares : Context → Bool → Specifyings → List (Declaring × Option Initial) → Bool → Option (ℕ × ℕ) → Made → Doing Declaration
declares c in_for ss ds body None m = specified c in_for ss ds body m
declares c in_for ss ds body (Some t) m = alone_told c t.0 t.1 m

abbrev pub keyword : Assertion → ℕ
keyword (Assertion_of k o t x ns e z) = k

-- `in_for` says that it is the first part of a `for`
abbrev pub declaration : Context → Bool → Heading → Made → Doing Declaration
declaration c in_for (Declares_of ss ds body) m = declares c in_for ss ds body (lone_tag c ss ds) m
declaration c in_for (Asserts_of a) m = and_then (assertion c evaluated a m) (λ now. gives (told_of_nothing (keyword a)) now)

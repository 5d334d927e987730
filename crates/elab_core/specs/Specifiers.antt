-- Declaration specifiers and qualifiers (ISO C11 6.7.1 to 6.7.4), one after another, and the type that they specify.
use Rattle.std.specs.Prelude.{ℕ, Bool, true, false, ◌||◌, ◌&&◌, not, is_none, List, [], ◌∷◌, codes, Option, Some, None, if◌then◌else◌}
use Rattle.decl_rules.specs.declared.parts.Storage.{Storage}
use Rattle.decl_rules.specs.declared.parts.Storage.TheVariants as storage
use Rattle.head_rules.specs.Alignments.{unaligned}
use Rattle.head_rules.specs.declared.parts.Specified.TheVariants as specified
use Rattle.type_data.specs.declared.qualifiers.Qual.{Qual}
use Rattle.type_data.specs.Types.{Ty, Void_type, Basic_type, Enumerated_type, Tagged_type, Pointer_to, Array_of, Function_of, Bad_type}
use Rattle.type_rel.specs.Kinds.{unqualified}
use Rattle.expr_rules.specs.Kinds.{both_quals}
use Rattle.elab_state.specs.declared.words.Word.{Word}
use Rattle.elab_state.specs.declared.words.Word.TheVariants as word
use Rattle.elab_state.specs.declared.made.Made.{Made}
use Rattle.elab_state.specs.Doings.{fault, left_out, with_fault}
use Rattle.elab_core.specs.declared.kinds.Base.{Base}
use Rattle.elab_core.specs.declared.kinds.Base.TheVariants as base
use Rattle.elab_core.specs.declared.kinds.Sign.{Sign}
use Rattle.elab_core.specs.declared.kinds.Sign.TheVariants as sign
use Rattle.elab_core.specs.declared.kinds.Size.{Size}
use Rattle.elab_core.specs.declared.kinds.Size.TheVariants as size
use Rattle.elab_core.specs.declared.shapes.Gathered.{Gathered}
use Rattle.elab_core.specs.declared.shapes.Typed.{Typed}
use Rattle.elab_core.specs.Kinds.{combined, with_base, with_long, with_short, with_sign}
use Rattle.elab_core.specs.Qualified.{own_quals, qualified}

abbrev pub typed : Ty → Qual → Typed
typed t q = record { ty = t; qual = q }

abbrev pub no_type : Typed
no_type = typed Bad_type unqualified

-- nothing yet
abbrev pub nothing : Gathered
nothing = record {
  base = base.None;
  size = size.None;
  sign = sign.None;
  other = None;
  clashes = false;
  faulty = false;
  qual = unqualified;
  restrict_at = None;
  storage = storage.None;
  storage_at = None;
  thread_at = None;
  inline = false;
  noreturn = false;
  function_at = None;
  align = unaligned;
  specified = specified.Other;
}

-- it has a fault, which was told
abbrev pub faulty : Gathered → Gathered
faulty g = record g { faulty = true }

abbrev pub first : Option ℕ → ℕ → Option ℕ
first (Some k) n = Some k
first None n = Some n

-- ---- type specifiers (6.7.2)

abbrev pub clashing : Gathered → Gathered
clashing g = record g { clashes = true }

abbrev pub with_new_base : Option Base → Gathered → Gathered
with_new_base (Some b) g = record g { base = b }
with_new_base None g = clashing g

abbrev pub with_new_size : Option Size → Gathered → Gathered
with_new_size (Some s) g = record g { size = s }
with_new_size None g = clashing g

abbrev pub with_new_sign : Option Sign → Gathered → Gathered
with_new_sign (Some s) g = record g { sign = s }
with_new_sign None g = clashing g

abbrev pub with_base_word : Base → Gathered → Gathered
with_base_word b g = with_new_base (with_base g.base b) g

abbrev pub with_sign_word : Sign → Gathered → Gathered
with_sign_word s g = with_new_sign (with_sign g.sign s) g

-- a tag or typedef name; none where it has a fault
abbrev pub with_other_type : Option Typed → Typed → Gathered → Gathered
with_other_type None t g = record g { other = Some t }
with_other_type (Some s) t g = clashing g

abbrev pub with_other : Option Typed → Gathered → Gathered
with_other (Some t) g = with_other_type g.other t g
with_other None g = faulty g

-- ---- qualifiers (6.7.3), which may stand more than once (p5)

abbrev pub with_const : Gathered → Gathered
with_const g = record g { qual = record g.qual { is_const = true } }

abbrev pub with_volatile : Gathered → Gathered
with_volatile g = record g { qual = record g.qual { is_volatile = true } }

abbrev pub with_restrict : ℕ → Gathered → Gathered
with_restrict n g = record g { qual = record g.qual { is_restrict = true }; restrict_at = first g.restrict_at n }

-- ---- storage classes (6.7.1p2, p3): one, but for `_Thread_local` beside `static` or `extern`

abbrev pub is_unset : Storage → Bool
is_unset storage.None = true
is_unset storage.Typedef = false
is_unset storage.Extern = false
is_unset storage.Static = false
is_unset storage.Auto = false
is_unset storage.Register = false

abbrev pub may_join_thread : Storage → Bool
may_join_thread storage.None = true
may_join_thread storage.Extern = true
may_join_thread storage.Static = true
may_join_thread storage.Typedef = false
may_join_thread storage.Auto = false
may_join_thread storage.Register = false

abbrev pub several : ℕ → Gathered → Made → Gathered × Made
several n g m = (faulty g, with_fault (fault 405 n [] []) m)

abbrev pub may_store : Storage → Gathered → Bool
may_store s g = is_unset g.storage && (is_none g.thread_at || may_join_thread s)

abbrev pub with_storage : Storage → ℕ → Gathered → Made → Gathered × Made
with_storage s n g m = if may_store s g then (record g { storage = s; storage_at = Some n }, m) else several n g m

abbrev pub may_be_thread : Gathered → Bool
may_be_thread g = is_none g.thread_at && may_join_thread g.storage

abbrev pub with_thread : ℕ → Gathered → Made → Gathered × Made
with_thread n g m = if may_be_thread g then (record g { thread_at = Some n }, m) else several n g m

-- ---- function specifiers (6.7.4), which may stand more than once (p5)

abbrev pub with_inline : ℕ → Gathered → Gathered
with_inline n g = record g { inline = true; function_at = first g.function_at n }

abbrev pub with_noreturn : ℕ → Gathered → Gathered
with_noreturn n g = record g { noreturn = true; function_at = first g.function_at n }

-- ---- a keyword, which is the token n

abbrev pub without : List ℕ → ℕ → Gathered → Made → Gathered × Made
without what n g m = (faulty g, left_out what n m)

abbrev pub with_word : Word → ℕ → Gathered → Made → Gathered × Made
with_word word.Void n g m = (with_base_word base.Void g, m)
with_word word.Char n g m = (with_base_word base.Char g, m)
with_word word.Int n g m = (with_base_word base.Int g, m)
with_word word.Float n g m = (with_base_word base.Float g, m)
with_word word.Double n g m = (with_base_word base.Double g, m)
with_word word.Bool n g m = (with_base_word base.Bool g, m)
with_word word.Short n g m = (with_new_size (with_short g.size) g, m)
with_word word.Long n g m = (with_new_size (with_long g.size) g, m)
with_word word.Signed n g m = (with_sign_word sign.Signed g, m)
with_word word.Unsigned n g m = (with_sign_word sign.Unsigned g, m)
with_word word.Const n g m = (with_const g, m)
with_word word.Restrict n g m = (with_restrict n g, m)
with_word word.Volatile n g m = (with_volatile g, m)
with_word word.Typedef n g m = with_storage storage.Typedef n g m
with_word word.Extern n g m = with_storage storage.Extern n g m
with_word word.Static n g m = with_storage storage.Static n g m
with_word word.Auto n g m = with_storage storage.Auto n g m
with_word word.Register n g m = with_storage storage.Register n g m
with_word word.ThreadLocal n g m = with_thread n g m
with_word word.Inline n g m = (with_inline n g, m)
with_word word.Noreturn n g m = (with_noreturn n g, m)
with_word word.Atomic n g m = without (codes "_Atomic") n g m
with_word word.Complex n g m = without (codes "_Complex") n g m
with_word word.Imaginary n g m = without (codes "_Imaginary") n g m
with_word word.Other n g m = (g, m)

-- ---- the type that all of them specify

abbrev pub has_base : Base → Bool
has_base base.None = false
has_base base.Void = true
has_base base.Bool = true
has_base base.Char = true
has_base base.Int = true
has_base base.Float = true
has_base base.Double = true

abbrev pub has_size : Size → Bool
has_size size.None = false
has_size size.Short = true
has_size size.Long = true
has_size size.LongLong = true

abbrev pub has_sign : Sign → Bool
has_sign sign.None = false
has_sign sign.Signed = true
has_sign sign.Unsigned = true

abbrev pub has_words : Gathered → Bool
has_words g = has_base g.base || (has_size g.size || has_sign g.sign)

abbrev pub unqualified_type : Ty → Typed
unqualified_type t = typed t unqualified

abbrev pub of_words : Option Ty → Option Typed
of_words (Some t) = Some (unqualified_type t)
of_words None = None

-- a tag or typedef name stands without any other type specifier
abbrev pub by_other : Option Typed → Gathered → Option Typed
by_other (Some t) g = if has_words g then None else Some t
by_other None g = of_words (combined g.base g.size g.sign)

abbrev pub type_of : Gathered → Option Typed
type_of g = if g.clashes then None else by_other g.other g

-- 6.7.3p2: a pointer to an object type, or (p9) an array whose elements are such; nothing is shown of a faulty type
abbrev pub is_function : Ty → Bool
is_function (Function_of t ps p) = true
is_function Void_type = false
is_function (Basic_type b) = false
is_function (Enumerated_type id) = false
is_function (Tagged_type id) = false
is_function (Pointer_to t q) = false
is_function (Array_of t q n) = false
is_function Bad_type = false

abbrev pub may_restrict : Ty → Bool
may_restrict (Pointer_to t q) = not (is_function t)
may_restrict (Array_of t q n) = may_restrict t
may_restrict Bad_type = true
may_restrict Void_type = false
may_restrict (Basic_type b) = false
may_restrict (Enumerated_type id) = false
may_restrict (Tagged_type id) = false
may_restrict (Function_of t ps p) = false

abbrev pub type_fault : ℕ → ℕ → Ty → Made → Made
type_fault rule n t m = with_fault (fault rule n [] (t ∷ [])) m

-- p9: the qualifiers of an array are those of its elements; those of a function type mean nothing
abbrev pub with_quals : Qual → Typed → Typed
with_quals q t = record { ty = qualified t.ty q; qual = own_quals t.ty (both_quals t.qual q) }

abbrev pub restricted : Option ℕ → Qual → Typed → Made → Typed × Made
restricted (Some n) q t m = if may_restrict t.ty then (with_quals q t, m) else (no_type, type_fault 415 n t.ty m)
restricted None q t m = (with_quals q t, m)

abbrev pub settled_as : ℕ → Option Typed → Gathered → Made → Typed × Made
settled_as at (Some t) g m = restricted g.restrict_at g.qual t m
settled_as at None g m = (no_type, with_fault (fault 407 at [] []) m)

-- `at` is the first of them
abbrev pub settled : ℕ → Gathered → Made → Typed × Made
settled at g m = if g.faulty || g.align.faulty then (no_type, m) else settled_as at (type_of g) g m

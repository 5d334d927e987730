-- What tokens are under the identifiers of an item: a test that tells no typedef name from another identifier sees no difference.
use Rattle.std.proofs.Common.{◌≡◌, refl, ap, sym, ◌∙◌, ℕ, zero, suc, ◌+◌, List, [], ◌∷◌, length, Option, Some, None, Bool, true, false, ◌||◌, if◌then◌else◌, slice_index_or}
use Rattle.tree_data.specs.Trees.{Declaring, Initial, Specifying, Word_of, Specifyings, No_specifiers, Specifier_then}
use Rattle.c_parser.specs.declared.kinds.Kind.{Kind}
use Rattle.c_parser.specs.declared.kinds.Kind.TheVariants.{Identifier, TypeName}
use Rattle.c_parser.specs.Declarators.{name_of}
use Rattle.c_parser.specs.Grammar.{has_type, typed_by}
use Rattle.c_parser.specs.Heads.{Leading, named, past, past_all, defines_one, defines, leading_of}
use Rattle.c_parser.specs.Kinds.{kind_at, is_type_word, is_typedef_word}
use Rattle.c_parser.specs.Scopes.{shade}
use Rattle.c_parser.specs.Words.{Words, shown, shown_from, declared_as, declared, past_one, past_numbers, past_range}
use Rattle.c_parser.specs.Enumerations.{enumerates}
use Rattle.c_parser.proofs.Enumerated.{settle_length, settled_alike}
use Rattle.c_parser.proofs.Hiding.{IsBlind}
use Rattle.c_parser.proofs.ScopeLemmas.{shaded_length, shaded_at}

pub shown_length : (w : Words) → length (shown w) ≡ length w.kinds
shown_length w = shaded_length w.hidden w.kinds

-- for a part that begins at a place
pub from_length : (w : Words) → (a : ℕ) → length (shown_from w a) ≡ length w.kinds
from_length w a = settle_length (shown w) a ∙ shown_length w

shaded_if : (f : Kind → Bool) → IsBlind f → (n : ℕ) → (b : Bool) → f (if b then Identifier else TypeName n) ≡ f (TypeName n)
shaded_if f u n true = sym (u n)
shaded_if f u n false = refl

shaded_one : (f : Kind → Bool) → IsBlind f → (hidden : List Bool) → (k : Kind) → f (shade hidden k) ≡ f k
shaded_one f u hidden (TypeName n) = shaded_if f u n (slice_index_or hidden n false)
shaded_one f u hidden _ = refl

pub plain_at : (f : Kind → Bool) → IsBlind f → (w : Words) → (a : ℕ) → f (kind_at (shown w) a) ≡ f (kind_at w.kinds a)
plain_at f u w a = ap f (shaded_at w.hidden w.kinds a) ∙ shaded_one f u w.hidden (kind_at w.kinds a)

pub from_at : (f : Kind → Bool) → IsBlind f → (w : Words) → (from a : ℕ) → f (kind_at (shown_from w from) a) ≡ f (kind_at w.kinds a)
from_at f u w from a = settled_alike (shown w) from f u a ∙ plain_at f u w a

-- what declarators stand behind is the same
has_type_from : (w : Words) → (o : ℕ) → (s : Specifying) → has_type (shown_from w o) s ≡ has_type (shown w) s
has_type_from w o (Word_of n) = settled_alike (shown w) o is_type_word (λ x. refl) n
has_type_from w o _ = refl

pub typed_from : (w : Words) → (o : ℕ) → (y : Bool) → (ss : Specifyings) → typed_by (shown_from w o) y ss ≡ typed_by (shown w) y ss
typed_from w o y No_specifiers = refl
typed_from w o y (Specifier_then s ss) =
    ap (λ b. typed_by (shown_from w o) (b || y) ss) (has_type_from w o s) ∙ typed_from w o (has_type (shown w) s || y) ss

defines_one_from : (w : Words) → (o : ℕ) → (s : Specifying) → defines_one (shown_from w o) s ≡ defines_one (shown w) s
defines_one_from w o (Word_of n) = settled_alike (shown w) o is_typedef_word (λ x. refl) n
defines_one_from w o _ = refl

defines_from : (w : Words) → (o : ℕ) → (ss : Specifyings) → defines (shown_from w o) ss ≡ defines (shown w) ss
defines_from w o No_specifiers = refl
defines_from w o (Specifier_then s ss) =
    ap (λ b. b || defines (shown_from w o) ss) (defines_one_from w o s) ∙ ap (λ b. defines_one (shown w) s || b) (defines_from w o ss)

pub leading_from : (w : Words) → (o : ℕ) → (ss : Specifyings) → leading_of (shown_from w o) ss ≡ leading_of (shown w) ss
leading_from w o ss = λ i. record { typed = typed_from w o false ss i; typedef = defines_from w o ss i }

-- a declaration changes no token
as_kinds : (w : Words) → (y : Bool) → (k : Kind) → (declared_as w y k).kinds ≡ w.kinds
as_kinds w y (TypeName n) = refl
as_kinds w y _ = refl

named_kinds : (w : Words) → (y : Bool) → (o : Option ℕ) → (named w y o).kinds ≡ w.kinds
named_kinds w y None = refl
named_kinds w y (Some n) = as_kinds w y (kind_at w.kinds n)

past_one_kinds : (w : Words) → (n : ℕ) → (past_one w n).kinds ≡ w.kinds
past_one_kinds w n = either (enumerates w.kinds n)
  where
    either : (b : Bool) → (if b then declared w false n else w).kinds ≡ w.kinds
    either true = as_kinds w false (kind_at w.kinds n)
    either false = refl

pub past_numbers_kinds : (w : Words) → (ns : List ℕ) → (past_numbers w ns).kinds ≡ w.kinds
past_numbers_kinds w [] = refl
past_numbers_kinds w (n ∷ ns) = past_numbers_kinds (past_one w n) ns ∙ past_one_kinds w n

pub past_range_kinds : (w : Words) → (a n : ℕ) → (past_range w a n).kinds ≡ w.kinds
past_range_kinds w a zero = refl
past_range_kinds w a (suc n) = past_range_kinds (past_one w a) (a + 1) n ∙ past_one_kinds w a

pub past_kinds : (w : Words) → (s : Leading) → (d : Declaring) → (past w s d).kinds ≡ w.kinds
past_kinds w s d = named_kinds w s.typedef (name_of d)

pub past_all_kinds : (w : Words) → (s : Leading) → (ds : List (Declaring × Option Initial)) → (past_all w s ds).kinds ≡ w.kinds
past_all_kinds w s [] = refl
past_all_kinds w s (p ∷ ps) = past_all_kinds (past w s p.0) s ps ∙ past_kinds w s p.0

-- behind declarators the tokens are those in front of them
pub all_kinds : (w : Words) → (s : Leading) → (w' : Words) → (ds : List (Declaring × Option Initial)) → w' ≡ past_all w s ds → w'.kinds ≡ w.kinds
all_kinds w s w' ds is = ap (λ x. x.kinds) is ∙ past_all_kinds w s ds

-- behind a declarator with this name
pub past_is : (w w' : Words) → (s : Leading) → (d : Declaring) → (n : ℕ) → w' ≡ declared w s.typedef n → name_of d ≡ Some n → w' ≡ past w s d
past_is w w' s d n is told = is ∙ ap (named w s.typedef) (sym told)

-- a mark is declared nothing
pub not_declared : (w : Words) → (y : Bool) → (k : Kind) → ((n : ℕ) → k ≡ TypeName n → ⊥) → declared_as w y k ≡ w
not_declared w y (TypeName n) u = absurd (u n refl)
not_declared w y _ u = refl

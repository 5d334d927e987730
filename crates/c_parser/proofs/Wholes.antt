-- From a reading of the front to one of all tokens.
use Rattle.std.proofs.Common.{◌≡◌, refl, ap, sym, ◌∙◌, subst, ℕ, ◌+◌, ◌-◌, ◌<◌, ◌==◌, if◌then◌else◌, List, [], ◌∷◌, length, arith, true, None, Some}
use Rattle.tree_data.specs.Trees.{Tree, Naming}
use Rattle.c_parser.specs.declared.answers.ParseError.{ParseError}
use Rattle.c_parser.specs.declared.answers.ParseError.TheVariants as told
use Rattle.c_parser.specs.declared.answers.Stop.{Stop}
use Rattle.c_parser.specs.declared.answers.Stop.TheVariants.{Syntax, NoMemory}
use Rattle.c_parser.specs.declared.kinds.Kind.{Kind}
use Rattle.c_parser.specs.Reading.{Reads, Found, FoundType, HoldsType, IsWant, at_front, IsAtFront, IsRefused, IsDeep}
use Rattle.c_parser.specs.Brackets.{opens, closes, too_deep_from, too_deep}
use Rattle.c_parser.specs.Enumerations.{in_force, settle_on, settle}
use Rattle.c_parser.specs.Grammar.{IsMeaning, IsCause}
use Rattle.c_parser.proofs.Enumerated.{blind_forced}
use Rattle.c_parser.proofs.Parsing.{Fails, found_only}
use Rattle.c_parser.proofs.Spans.{expression_reads, reads_expression, formed_type, spanned_type, held_type}
use Rattle.c_parser.proofs.Uniqueness.{past_end, stops_at_end, reads_only}
use Rattle.c_parser.specs.Grammar.{numbers, spell_type}
use Rattle.c_parser.specs.Kinds.{kind_at, ends_type}
use Rattle.c_parser.specs.TypeMeaning.{IsTypeName, IsTypeMeaning, IsTypeCause}
use Rattle.c_parser.specs.Numbers.{Spans}
use Rattle.c_parser.proofs.Numbers.{numbers_span, span_numbers}
use Rattle.c_parser.proofs.TypeReading.{type_only}

pub front_is : (e : Stop) → IsAtFront (at_front e)
front_is (Syntax at) = refl
front_is NoMemory = tt

pub want_is : (e : Stop) → IsWant e → IsRefused (at_front e)
want_is (Syntax at) h = absurd h
want_is NoMemory h = tt

pub whole_fails : (ks : List Kind) → (e : Stop) → (r : ParseError) → r ≡ at_front e → Fails ks 1 0 e
    → (t : Tree) → Reads ks 1 t 0 (length ks) → IsRefused r
whole_fails ks e r is fails t h =
    subst IsRefused (sym is) (want_is e (fails t (length ks) h (stops_at_end ks)))

pub more_stands : (ks : List Kind) → (t : Tree) → (b : ℕ) → Found ks 1 0 t b → b < length ks
    → (u : Tree) → Reads ks 1 u 0 (length ks) → ⊥
more_stands ks t b found lt u h =
    let end : b ≡ length ks = (found_only ks 1 0 t b (omega arith) found u (length ks) h (stops_at_end ks)).1 in
    omega arith

pub is_meaning : (ks : List Kind) → (t : Tree) → too_deep ks ≡ None → Reads ks 1 t 0 (length ks) → IsMeaning ks t
is_meaning ks t d h = record {
  shallow = d;
  proper = reads_expression ks t h;
  only = λ u e.
      (reads_only ks 1 t 0 (length ks) (omega arith) h (stops_at_end ks) u (length ks) (expression_reads ks u e) (stops_at_end ks)).0;
}

pub is_cause : (ks : List Kind) → (e : ParseError) → too_deep ks ≡ None → IsAtFront e
    → ((u : Tree) → Reads ks 1 u 0 (length ks) → IsRefused e) → IsCause ks e
is_cause ks (told.Syntax at) d f h = (f, d, λ u e. h u (expression_reads ks u e))
is_cause ks (told.TooDeep at) d f h = absurd f
is_cause ks told.NoMemory d f h = tt

pub deep_cause : (ks : List Kind) → (e : ParseError) → IsDeep ks e → IsCause ks e
deep_cause ks (told.Syntax at) h = absurd h
deep_cause ks (told.TooDeep at) h = h
deep_cause ks told.NoMemory h = tt

-- brackets are the same where enumerators hide typedef names
deep_settled : (ks : List Kind) → (from start depth at : ℕ) → (us : List Kind)
    → too_deep_from depth at (settle_on ks from start us) ≡ too_deep_from depth at us
deep_settled ks from start depth at [] = refl
deep_settled ks from start depth at (u ∷ us) =
    ap (λ b. if b then (if depth == 256 then Some at else too_deep_from (depth + 1) (at + 1) (settle_on ks from (start + 1) us))
    else (if closes (in_force ks from start u) then too_deep_from (depth - 1) (at + 1) (settle_on ks from (start + 1) us)
    else too_deep_from depth (at + 1) (settle_on ks from (start + 1) us))) (blind_forced opens (λ n. refl) ks from start u)
    ∙ ap (λ b. if opens u then (if depth == 256 then Some at else too_deep_from (depth + 1) (at + 1) (settle_on ks from (start + 1) us))
    else (if b then too_deep_from (depth - 1) (at + 1) (settle_on ks from (start + 1) us)
    else too_deep_from depth (at + 1) (settle_on ks from (start + 1) us))) (blind_forced closes (λ n. refl) ks from start u)
    ∙ ap (λ x. if opens u then (if depth == 256 then Some at else x)
    else (if closes u then too_deep_from (depth - 1) (at + 1) (settle_on ks from (start + 1) us)
    else too_deep_from depth (at + 1) (settle_on ks from (start + 1) us))) (deep_settled ks from (start + 1) (depth + 1) (at + 1) us)
    ∙ ap (λ x. if opens u then (if depth == 256 then Some at else too_deep_from (depth + 1) (at + 1) us)
    else (if closes u then x else too_deep_from depth (at + 1) (settle_on ks from (start + 1) us)))
    (deep_settled ks from (start + 1) (depth - 1) (at + 1) us)
    ∙ ap (λ x. if opens u then (if depth == 256 then Some at else too_deep_from (depth + 1) (at + 1) us)
    else (if closes u then too_deep_from (depth - 1) (at + 1) us else x)) (deep_settled ks from (start + 1) depth (at + 1) us)

settled_depth : (ks : List Kind) → too_deep (settle ks 0) ≡ too_deep ks
unfolding settle
settled_depth ks = deep_settled ks 0 0 0 0 ks

pub settled_shallow : (ks : List Kind) → too_deep ks ≡ None → too_deep (settle ks 0) ≡ None
settled_shallow ks h = settled_depth ks ∙ h

pub settled_deep : (ks : List Kind) → (e : ParseError) → IsDeep ks e → IsDeep (settle ks 0) e
settled_deep ks (told.Syntax at) h = absurd h
settled_deep ks (told.TooDeep at) h = settled_depth ks ∙ h
settled_deep ks told.NoMemory h = tt

-- the same for the name of a type: what a call that reads one answers where there is none, and where there is one
abbrev pub FailsType : List Kind → ℕ → Stop → Type 0
FailsType ks a e = (y : Naming) → (c : ℕ) → HoldsType ks y a c → ends_type (kind_at ks c) ≡ true → IsWant e

abbrev pub OnlyType : List Kind → ℕ → Naming → ℕ → Type 0
OnlyType ks a y c = (y' : Naming) → (c' : ℕ) → HoldsType ks y' a c' → ends_type (kind_at ks c') ≡ true → (y ≡ y') × (c ≡ c')

ends_at_end : (ks : List Kind) → ends_type (kind_at ks (length ks)) ≡ true
ends_at_end ks = ap ends_type (past_end ks)

pub type_fails : (ks : List Kind) → (e : Stop) → (r : ParseError) → r ≡ at_front e → FailsType ks 0 e
    → (t : Naming) → HoldsType ks t 0 (length ks) → IsRefused r
type_fails ks e r is fails t h =
    subst IsRefused (sym is) (want_is e (fails t (length ks) h (ends_at_end ks)))

pub more_than_a_type : (ks : List Kind) → (t : Naming) → (b : ℕ) → OnlyType ks 0 t b → b < length ks
    → (u : Naming) → HoldsType ks u 0 (length ks) → ⊥
more_than_a_type ks t b only lt u h =
    let end : b ≡ length ks = (only u (length ks) h (ends_at_end ks)).1 in
    omega arith

pub type_to_end : (ks : List Kind) → (t : Naming) → (b : ℕ) → FoundType ks 0 t b → (b < length ks → ⊥) → HoldsType ks t 0 (length ks)
type_to_end ks t b found not =
    let inside = found.inside in
    let end : b ≡ length ks = omega arith in
    subst (λ k. HoldsType ks t 0 k) end found.reads

type_reads : (ks : List Kind) → (t : Naming) → IsTypeName ks t → HoldsType ks t 0 (length ks)
type_reads ks t e =
    let all : 0 + length ks ≡ length ks = omega arith in
    held_type
    ks
    t
    0
    (length ks)
    e.proper
    (subst
    (λ xs. Spans xs 0 (length ks))
    (sym e.spells)
    (subst (λ b. Spans (numbers 0 (length ks)) 0 b) all (numbers_span (length ks) 0)))

reads_type : (ks : List Kind) → (t : Naming) → HoldsType ks t 0 (length ks) → IsTypeName ks t
reads_type ks t h =
    let all : length ks ≡ 0 + length ks = omega arith in
    record {
      proper = formed_type ks t 0 (length ks) h;
      spells = span_numbers (spell_type t) 0 (length ks) (length ks) (spanned_type ks t 0 (length ks) h) all;
    }

only_to_end : (ks : List Kind) → (t u : Naming) → HoldsType ks t 0 (length ks) → IsTypeName ks u → t ≡ u
only_to_end ks t u h e = (type_only ks t 0 (length ks) h (ends_at_end ks) u (length ks) (type_reads ks u e) (ends_at_end ks)).0

pub type_unique : (ks : List Kind) → (t u : Naming) → IsTypeName ks t → IsTypeName ks u → t ≡ u
type_unique ks t u x y = only_to_end ks t u (type_reads ks t x) y

pub is_type_meaning : (ks : List Kind) → (t : Naming) → too_deep ks ≡ None → HoldsType ks t 0 (length ks) → IsTypeMeaning ks t
is_type_meaning ks t d h = record { shallow = d; proper = reads_type ks t h; only = λ u e. only_to_end ks t u h e }

pub is_type_cause : (ks : List Kind) → (e : ParseError) → too_deep ks ≡ None → IsAtFront e
    → ((u : Naming) → HoldsType ks u 0 (length ks) → IsRefused e) → IsTypeCause ks e
is_type_cause ks (told.Syntax at) d f h = (f, d, λ u e. h u (type_reads ks u e))
is_type_cause ks (told.TooDeep at) d f h = absurd f
is_type_cause ks told.NoMemory d f h = tt

pub deep_type_cause : (ks : List Kind) → (e : ParseError) → IsDeep ks e → IsTypeCause ks e
deep_type_cause ks (told.Syntax at) h = absurd h
deep_type_cause ks (told.TooDeep at) h = h
deep_type_cause ks told.NoMemory h = tt

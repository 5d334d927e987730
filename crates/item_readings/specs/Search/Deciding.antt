-- What can be decided of tokens, and of trees that were found.
use Rattle.std.proofs.Common.{◌≡◌, refl, sym, ap, subst, ◌∙◌, ℕ, ◌+◌, ◌<◌, ◌≤◌, ◌==◌, arith, List, [], ◌∷◌, Bool, true, false, true≢false, not, is_some, if◌then◌else◌}
use Rattle.std.proofs.Math.Decide.{dec_le}
use Rattle.tree_data.specs.Trees.{Behind, Operand_of, Index_of, Call_of, Call_with_of, Member_of, Step_of, Behinds, None_behind, Behind_then, Fronts, None_before, Front_then, Associations, No_associations, Association_then, Specifyings, No_specifiers, Specifier_then, Members, No_members, Member_then, Declaring, Declaring_of, Grouping, No_group, Named_of, Group_of, Derivings, No_derivings, Deriving_then}
use Rattle.c_parser.specs.declared.kinds.Kind.{Kind}
use Rattle.c_parser.specs.declared.kinds.Kind.TheVariants.{Identifier, Constant, Text, OpenParen, CloseParen, OpenBracket, CloseBracket, OpenBrace, CloseBrace, Step, Question, Colon, Comma, Generic, OffsetOf, Default, Ellipsis, Tag, Star, Atomic, Static, Align, Assert, Semicolon, Enum, If, Else, Switch, Case, While, Do, For, Goto, Continue, Break, Return, Other}
use Rattle.c_parser.specs.Declarators.{AreThere, IsWritten, MayDerive, need_name, name_in}
use Rattle.c_parser.specs.Grammar.{IsMore, IsAny, IsBefore, IsStep, AreSteps, AreSome, HasMembers}
use Rattle.c_parser.specs.Kinds.{kind_at, is_dot}
use Rattle.c_parser.specs.Levels.{IsBinary}

pub map_dec : {P Q : Type 0} → (P → Q) → (Q → P) → Dec P → Dec Q
map_dec f g (yes p) = yes (f p)
map_dec f g (no n) = no (λ q. n (g q))

and_yes : {P Q : Type 0} → P → Dec Q → Dec (P × Q)
and_yes p (yes q) = yes (p, q)
and_yes p (no n) = no (λ x. n x.1)

-- one thing, and then another
pub and_then : {P Q : Type 0} → Dec P → (P → Dec Q) → Dec (P × Q)
and_then (no n) f = no (λ x. n x.0)
and_then (yes p) f = and_yes p (f p)

-- a number that is given by an equation
pub at_place : {Q : ℕ → Type 0} → (e : ℕ) → Dec (Q e) → Dec ((o : ℕ) × (o ≡ e) × Q o)
at_place e (yes q) = yes (e, refl, q)
at_place {Q = Q} e (no n) = no (λ x. n (subst Q x.1 x.2))

-- the first of several that is so
pub first : {P Q : Type 0} → Dec P → (P → Q) → ((P → ⊥) → Dec Q) → Dec Q
first (yes p) f more = yes (f p)
first (no n) f more = more n

pub dec_not : {P : Type 0} → Dec P → Dec (P → ⊥)
dec_not (yes p) = no (λ n. n p)
dec_not (no n) = yes n

pub dec_if : {P Q : Type 0} → Dec P → Dec Q → Dec (P → Q)
dec_if (no n) q = yes (λ p. absurd (n p))
dec_if (yes p) (yes q) = yes (λ x. q)
dec_if (yes p) (no n) = no (λ f. n (f p))

pub dec_bool : (x y : Bool) → Dec (x ≡ y)
dec_bool true true = yes refl
dec_bool false false = yes refl
dec_bool true false = no (λ e. absurd (true≢false e))
dec_bool false true = no (λ e. absurd (true≢false (sym e)))

both_ways : (x y : ℕ) → Dec (x ≤ y) → Dec (y ≤ x) → Dec (x ≡ y)
both_ways x y (yes a) (yes b) = yes (omega (arith, a, b))
both_ways x y (no n) b = no (λ e. n (omega (arith, e)))
both_ways x y (yes a) (no n) = no (λ e. n (omega (arith, e)))

pub dec_number : (x y : ℕ) → Dec (x ≡ y)
dec_number x y = both_ways x y (dec_le x y) (dec_le y x)

pub dec_less : (x y : ℕ) → Dec (x < y)
dec_less x y = map_dec (λ h. omega (arith, h)) (λ h. omega (arith, h)) (dec_le (x + 1) y)

-- the kinds that the grammar names, by numbers
abbrev pub code : Kind → ℕ
code Identifier = 1
code Constant = 2
code Text = 3
code OpenParen = 4
code CloseParen = 5
code OpenBracket = 6
code CloseBracket = 7
code OpenBrace = 8
code CloseBrace = 9
code Step = 10
code Question = 11
code Colon = 12
code Comma = 13
code Generic = 14
code OffsetOf = 15
code Default = 16
code Ellipsis = 17
code Tag = 18
code Star = 19
code Atomic = 20
code Static = 21
code Align = 22
code Assert = 23
code Semicolon = 24
code Enum = 25
code If = 26
code Else = 27
code Switch = 28
code Case = 29
code While = 30
code Do = 31
code For = 32
code Goto = 33
code Continue = 34
code Break = 35
code Return = 36
code _ = 0

named : ℕ → Kind
named n =
    if n == 1 then Identifier
    else (if n == 2 then Constant
    else (if n == 3 then Text
    else (if n == 4 then OpenParen
    else (if n == 5 then CloseParen
    else (if n == 6 then OpenBracket
    else (if n == 7 then CloseBracket
    else (if n == 8 then OpenBrace
    else (if n == 9 then CloseBrace
    else (if n == 10 then Step
    else (if n == 11 then Question
    else (if n == 12 then Colon
    else (if n == 13 then Comma
    else (if n == 14 then Generic
    else (if n == 15 then OffsetOf
    else (if n == 16 then Default
    else (if n == 17 then Ellipsis
    else (if n == 18 then Tag
    else (if n == 19 then Star
    else (if n == 20 then Atomic
    else (if n == 21 then Static
    else (if n == 22 then Align
    else (if n == 23 then Assert
    else (if n == 24 then Semicolon
    else (if n == 25 then Enum
    else (if n == 26 then If
    else (if n == 27 then Else
    else (if n == 28 then Switch
    else (if n == 29 then Case
    else (if n == 30 then While
    else (if n == 31 then Do
    else (if n == 32 then For
    else (if n == 33 then Goto
    else (if n == 34 then Continue
    else (if n == 35 then Break
    else (if n == 36 then Return
    else (Other))))))))))))))))))))))))))))))))))))

known : (k : Kind) → (code k ≡ 0 → ⊥) → named (code k) ≡ k
unfolding named
known Identifier h = refl
known Constant h = refl
known Text h = refl
known OpenParen h = refl
known CloseParen h = refl
known OpenBracket h = refl
known CloseBracket h = refl
known OpenBrace h = refl
known CloseBrace h = refl
known Step h = refl
known Question h = refl
known Colon h = refl
known Comma h = refl
known Generic h = refl
known OffsetOf h = refl
known Default h = refl
known Ellipsis h = refl
known Tag h = refl
known Star h = refl
known Atomic h = refl
known Static h = refl
known Align h = refl
known Assert h = refl
known Semicolon h = refl
known Enum h = refl
known If h = refl
known Else h = refl
known Switch h = refl
known Case h = refl
known While h = refl
known Do h = refl
known For h = refl
known Goto h = refl
known Continue h = refl
known Break h = refl
known Return h = refl
known _ h = absurd (h refl)

abbrev pub is_named : Kind → Bool
is_named k = not (code k == 0)

not_zero : (k : Kind) → is_named k ≡ true → code k ≡ 0 → ⊥
not_zero k h e = true≢false (sym h ∙ ap (λ x. not (x == 0)) e)

same_code : (k j : Kind) → is_named j ≡ true → Dec (code k ≡ code j) → Dec (k ≡ j)
same_code k j h (yes e) =
    yes (sym (known k (λ z. not_zero j h (sym e ∙ z))) ∙ (ap named e ∙ known j (not_zero j h)))
same_code k j h (no n) = no (λ e. n (ap code e))

pub dec_kind : (k j : Kind) → is_named j ≡ true → Dec (k ≡ j)
dec_kind k j h = same_code k j h (dec_number (code k) (code j))

-- what trees have to be
pub dec_more : (bs : Behinds) → Dec (IsMore bs)
dec_more None_behind = no (λ x. x)
dec_more (Behind_then b bs) = yes tt

pub dec_any : (xs : Associations) → Dec (IsAny xs)
dec_any No_associations = no (λ x. x)
dec_any (Association_then o x xs) = yes tt

pub dec_before : (fs : Fronts) → Dec (IsBefore fs)
dec_before None_before = no (λ x. x)
dec_before (Front_then f fs) = yes tt

pub dec_some : (ss : Specifyings) → Dec (AreSome ss)
dec_some No_specifiers = no (λ x. x)
dec_some (Specifier_then s ss) = yes tt

pub dec_members : (ms : Members) → Dec (HasMembers ms)
dec_members No_members = no (λ x. x)
dec_members (Member_then m ms) = yes tt

pub dec_there : (ns : List ℕ) → Dec (AreThere ns)
dec_there [] = no (λ x. x)
dec_there (n ∷ ns) = yes tt

dec_step : (ks : List Kind) → (b : Behind) → Dec (IsStep ks b)
dec_step ks (Operand_of o t) = no (λ x. x)
dec_step ks (Index_of o t c) = yes tt
dec_step ks (Call_of o c) = no (λ x. x)
dec_step ks (Call_with_of o t bs c) = no (λ x. x)
dec_step ks (Member_of o n) = dec_bool (is_dot (kind_at ks o)) true
dec_step ks (Step_of o) = no (λ x. x)

pub dec_steps : (ks : List Kind) → (bs : Behinds) → Dec (AreSteps ks bs)
dec_steps ks None_behind = yes tt
dec_steps ks (Behind_then b bs) = and_then (dec_step ks b) (λ x. dec_steps ks bs)

pub dec_written : (d : Declaring) → Dec (IsWritten d)
dec_written (Declaring_of (p ∷ ps) g ds) = yes tt
dec_written (Declaring_of [] (Named_of n) ds) = yes tt
dec_written (Declaring_of [] (Group_of o d c) ds) = yes tt
dec_written (Declaring_of [] No_group (Deriving_then d ds)) = yes tt
dec_written (Declaring_of [] No_group No_derivings) = no (λ x. x)

pub dec_derive : (g : Grouping) → (ds : Derivings) → Dec (MayDerive g ds)
dec_derive g ds = dec_if (dec_bool (need_name ds) true) (dec_bool (is_some (name_in g)) true)

pub dec_binary : (l : ℕ) → Dec (IsBinary l)
dec_binary l =
    map_dec (λ x. (x.0, x.1.0, x.1.1.0, x.1.1.1)) (λ x. (x.0, (x.1, (x.2, x.3))))
    (and_then (dec_le 1 l) (λ x. and_then (dec_le l 13) (λ y. and_then (dec_not (dec_number l 2)) (λ z. dec_not (dec_number l 3)))))

-- Fronts of statements, and what is no keyword of theirs.
use Rattle.std.proofs.Common.{◌≡◌, refl, ap, sym, ◌∙◌, ℕ, zero, suc, ◌<◌, List, [], ◌∷◌, map, length, arith, Bool, true, false, true≢false}
use Rattle.c_parser.specs.declared.kinds.Kind.{Kind}
use Rattle.c_parser.specs.declared.kinds.Kind.TheVariants.{Case, Default, If, Switch, While, For, Do, OpenBrace, Goto, Continue, Break, Return, End}
use Rattle.c_parser.specs.Kinds.{kind_at}
use Rattle.c_parser.specs.Scopes.{shade}
use Rattle.c_parser.specs.Words.{Words, kind_in}
use Rattle.stmt_parser.specs.declared.fronts.Front.{Front}
use Rattle.stmt_parser.specs.declared.fronts.Front.TheVariants as front
use Rattle.stmt_parser.specs.Fronts.{labels_at, is_marked, IsFront, IsCore}

-- a kind that passes a test which `End` fails is that of a token
inside_by : (f : Kind → Bool) → f End ≡ false → (hidden : List Bool) → (ks : List Kind) → (a : ℕ) → f (kind_at (map (shade hidden) ks) a) ≡ true
    → a < length ks
inside_by f e hidden [] a h = absurd (true≢false (sym h ∙ e))
inside_by f e hidden (k ∷ ks) zero h = omega arith
inside_by f e hidden (k ∷ ks) (suc a) h = omega (arith, inside_by f e hidden ks a h)

pub token_inside : (f : Kind → Bool) → f End ≡ false → (w : Words) → (a : ℕ) → (k : Kind) → kind_in w a ≡ k → f k ≡ true → a < length w.kinds
token_inside f e w a k h g = inside_by f e w.hidden w.kinds a (ap f h ∙ g)

pub marked_inside : (w : Words) → (a : ℕ) → (k : Kind) → kind_in w a ≡ k → is_marked k ≡ true → a < length w.kinds
marked_inside w a k h g = token_inside is_marked refl w a k h g

pub unmarked : (k : Kind) → (k ≡ Case → ⊥) → (k ≡ Default → ⊥) → (k ≡ If → ⊥) → (k ≡ Switch → ⊥) → (k ≡ While → ⊥) → (k ≡ For → ⊥) → (k ≡ Do → ⊥) → (k ≡ OpenBrace → ⊥) → (k ≡ Goto → ⊥) → (k ≡ Continue → ⊥) → (k ≡ Break → ⊥) → (k ≡ Return → ⊥) → is_marked k ≡ false
unmarked Case n0 n1 n2 n3 n4 n5 n6 n7 n8 n9 n10 n11 = absurd (n0 refl)
unmarked Default n0 n1 n2 n3 n4 n5 n6 n7 n8 n9 n10 n11 = absurd (n1 refl)
unmarked If n0 n1 n2 n3 n4 n5 n6 n7 n8 n9 n10 n11 = absurd (n2 refl)
unmarked Switch n0 n1 n2 n3 n4 n5 n6 n7 n8 n9 n10 n11 = absurd (n3 refl)
unmarked While n0 n1 n2 n3 n4 n5 n6 n7 n8 n9 n10 n11 = absurd (n4 refl)
unmarked For n0 n1 n2 n3 n4 n5 n6 n7 n8 n9 n10 n11 = absurd (n5 refl)
unmarked Do n0 n1 n2 n3 n4 n5 n6 n7 n8 n9 n10 n11 = absurd (n6 refl)
unmarked OpenBrace n0 n1 n2 n3 n4 n5 n6 n7 n8 n9 n10 n11 = absurd (n7 refl)
unmarked Goto n0 n1 n2 n3 n4 n5 n6 n7 n8 n9 n10 n11 = absurd (n8 refl)
unmarked Continue n0 n1 n2 n3 n4 n5 n6 n7 n8 n9 n10 n11 = absurd (n9 refl)
unmarked Break n0 n1 n2 n3 n4 n5 n6 n7 n8 n9 n10 n11 = absurd (n10 refl)
unmarked Return n0 n1 n2 n3 n4 n5 n6 n7 n8 n9 n10 n11 = absurd (n11 refl)
unmarked _ n0 n1 n2 n3 n4 n5 n6 n7 n8 n9 n10 n11 = refl

-- a front of what no statement outside of braces stands in
pub core_front : (f : Front) → (f ≡ front.If → ⊥) → (f ≡ front.Do → ⊥) → (f ≡ front.For → ⊥) → (f ≡ front.Label → ⊥) → (f ≡ front.Case → ⊥) → (f ≡ front.Default → ⊥) → (f ≡ front.Switch → ⊥) → (f ≡ front.While → ⊥) → IsCore f
core_front front.If n0 n1 n2 n3 n4 n5 n6 n7 = absurd (n0 refl)
core_front front.Do n0 n1 n2 n3 n4 n5 n6 n7 = absurd (n1 refl)
core_front front.For n0 n1 n2 n3 n4 n5 n6 n7 = absurd (n2 refl)
core_front front.Label n0 n1 n2 n3 n4 n5 n6 n7 = absurd (n3 refl)
core_front front.Case n0 n1 n2 n3 n4 n5 n6 n7 = absurd (n4 refl)
core_front front.Default n0 n1 n2 n3 n4 n5 n6 n7 = absurd (n5 refl)
core_front front.Switch n0 n1 n2 n3 n4 n5 n6 n7 = absurd (n6 refl)
core_front front.While n0 n1 n2 n3 n4 n5 n6 n7 = absurd (n7 refl)
core_front _ n0 n1 n2 n3 n4 n5 n6 n7 = tt

-- and of an expression statement
pub plain_front : (w : Words) → (a : ℕ) → (f : Front) → IsFront w a f → IsCore f → (f ≡ front.Block → ⊥) → (f ≡ front.Goto → ⊥) → (f ≡ front.Continue → ⊥) → (f ≡ front.Break → ⊥) → (f ≡ front.Return → ⊥)
    → (labels_at w a ≡ false) × (is_marked (kind_in w a) ≡ false)
plain_front w a front.Block h c n0 n1 n2 n3 n4 = absurd (n0 refl)
plain_front w a front.Goto h c n0 n1 n2 n3 n4 = absurd (n1 refl)
plain_front w a front.Continue h c n0 n1 n2 n3 n4 = absurd (n2 refl)
plain_front w a front.Break h c n0 n1 n2 n3 n4 = absurd (n3 refl)
plain_front w a front.Return h c n0 n1 n2 n3 n4 = absurd (n4 refl)
plain_front w a front.If h c n0 n1 n2 n3 n4 = absurd c
plain_front w a front.Do h c n0 n1 n2 n3 n4 = absurd c
plain_front w a front.For h c n0 n1 n2 n3 n4 = absurd c
plain_front w a front.Label h c n0 n1 n2 n3 n4 = absurd c
plain_front w a front.Case h c n0 n1 n2 n3 n4 = absurd c
plain_front w a front.Default h c n0 n1 n2 n3 n4 = absurd c
plain_front w a front.Switch h c n0 n1 n2 n3 n4 = absurd c
plain_front w a front.While h c n0 n1 n2 n3 n4 = absurd c
plain_front w a front.Plain h c n0 n1 n2 n3 n4 = h

-- Expressions and declarations as parts of statements, as the parser finds them.
use Rattle.std.proofs.Common.{◌≡◌, refl, ap, sym, ◌∙◌, subst, ℕ, ◌+◌, ◌<◌, ◌≤◌, List, [], ◌∷◌, length, arith, Option, Some, None, Bool, true, false, not, true≢false}
use Rattle.tree_data.specs.Trees.{Tree, Initial, Plain_of, Assertion_of, Heading, Declares_of, Asserts_of}
use Rattle.c_parser.specs.declared.answers.Stop.{Stop}
use Rattle.c_parser.specs.declared.kinds.Kind.{Kind}
use Rattle.c_parser.specs.Heads.{HoldsValue, HoldsOne, HoldOthers, HoldAll, Leading, leading_of, past, freely, HoldsHead}
use Rattle.c_parser.specs.HeadsFound.{FoundHead}
use Rattle.c_parser.specs.Parts.{FoundExpression, FoundDeclaration, HoldsDeclaration, is_declaration}
use Rattle.c_parser.specs.Reading.{HoldsInitial, Reads, Stops, Found, IsWant}
use Rattle.c_parser.specs.Words.{Words, shown, shown_from}
use Rattle.c_parser.proofs.Enumerated.{level_settled}
use Rattle.c_parser.proofs.Forth.{tree_forth, declarator_forth, piece_forth, specifyings_forth}
use Rattle.c_parser.proofs.HeadLists.{Piece}
use Rattle.c_parser.proofs.HeadWholes.{OnlyHead, FailsHead}
use Rattle.c_parser.proofs.HeadWords.{from_length}
use Rattle.c_parser.proofs.SameParts.{Only}

-- a part stops where it would under what is shown in front of it: enumerators are no operators
pub stops_here : (w : Words) → (n a b : ℕ) → Stops (shown_from w a) n b → Stops (shown w) n b
stops_here w n a b h = subst (λ l. l < n) (level_settled (shown w) a b) h

pub stops_there : (w : Words) → (n a b : ℕ) → Stops (shown w) n b → Stops (shown_from w a) n b
stops_there w n a b h = subst (λ l. l < n) (sym (level_settled (shown w) a b)) h

pub expression_found : (w : Words) → (ks : List Kind) → (n a : ℕ) → ks ≡ shown_from w a → (t : Tree) → (b : ℕ) → Found ks n a t b
    → FoundExpression w n a t b
expression_found w ks n a e t b f =
    let room : b ≤ length ks = f.inside in
    let same : length ks ≡ length w.kinds = ap length e ∙ from_length w a in
    record {
      reads = subst (λ x. Reads x n t a b) e f.reads;
      stops = stops_here w n a b (subst (λ x. Stops x n b) e f.stops);
      forth = f.forth;
      inside = omega (arith, room, same);
    }

-- a head ends behind the place where it begins
value_forth : (ks : List Kind) → (i : Option Initial) → (a b : ℕ) → HoldsValue ks i a b → a ≤ b
value_forth ks None a b h = omega (arith, h)
value_forth ks (Some i) a b h =
    let one : a + 1 ≤ b = piece_forth ks (Plain_of i) (a + 1) b h.1 in
    omega (arith, one)

one_forth : (w : Words) → (o : ℕ) → (s : Leading) → (p : Piece) → (a b : ℕ) → HoldsOne w o s p.0 p.1 a b → a ≤ b
one_forth w o s p a b h =
    let one : a ≤ h.0 = declarator_forth (shown_from w o) (not s.typed) p.0 a h.0 h.1 in
    let two : h.0 ≤ b = value_forth (shown_from (past w s p.0) o) p.1 h.0 b h.2 in
    omega (arith, one, two)

others_forth : (w : Words) → (o : ℕ) → (s : Leading) → (ps : List Piece) → (a b : ℕ) → HoldOthers w o s ps a b → a ≤ b
others_forth w o s [] a b h = omega (arith, h)
others_forth w o s (p ∷ ps) a b h =
    let one : a + 1 ≤ h.0 = one_forth w o s p (a + 1) h.0 h.2 in
    let two : h.0 ≤ b = others_forth (past w s p.0) o s ps h.0 b h.3 in
    omega (arith, one, two)

all_forth : (w : Words) → (o : ℕ) → (s : Leading) → (ps : List Piece) → (a b : ℕ) → HoldAll w o s ps a b → a ≤ b
all_forth w o s [] a b h = omega (arith, h)
all_forth w o s (p ∷ ps) a b h =
    let one : a ≤ h.0 = one_forth w o s p a h.0 h.1 in
    let two : h.0 ≤ b = others_forth (past w s p.0) o (freely s) ps h.0 b h.2 in
    omega (arith, one, two)

head_forth : (w : Words) → (d : Heading) → (a b : ℕ) → HoldsHead w d a b → a < b
head_forth w (Declares_of ss ds body) a b h =
    let one : a ≤ h.0 = specifyings_forth (shown_from w a) false ss a h.0 h.3 in
    let two : h.0 ≤ h.1 = all_forth w a (leading_of (shown w) ss) ds h.0 h.1 h.4 in
    omega (arith, one, two, h.6)
head_forth w (Asserts_of (Assertion_of k o t c ns p e)) a b h =
    let one : o + 1 ≤ c = tree_forth (shown_from w a) t (o + 1) c h.5 in
    let two : c + 1 < p = h.7 in
    omega (arith, one, two, h.2, h.10, h.12)

pub declaration_found : (w : Words) → (a : ℕ) → (d : Heading) → (b : ℕ) → FoundHead w a d b → is_declaration d ≡ true → FoundDeclaration w a d b
declaration_found w a d b f h =
    record { reads = (h, f.reads); forth = head_forth w d a b f.reads; inside = f.inside }

pub declaration_same : (w : Words) → (a : ℕ) → (d : Heading) → (b : ℕ) → OnlyHead w a d b → (u : Heading) → (c : ℕ) → HoldsDeclaration w u a c
    → (d ≡ u) × (b ≡ c)
declaration_same w a d b only u c h = only u c h.1

pub declaration_missing : (w : Words) → (a : ℕ) → (e : Stop) → FailsHead w a e → (u : Heading) → (c : ℕ) → HoldsDeclaration w u a c → IsWant e
declaration_missing w a e f u c h = f u c h.1

pub defined_instead : (w : Words) → (a : ℕ) → (d : Heading) → (b : ℕ) → OnlyHead w a d b → is_declaration d ≡ false → (u : Heading) → (c : ℕ)
    → HoldsDeclaration w u a c → ⊥
defined_instead w a d b only f u c h =
    true≢false (sym h.0 ∙ ap is_declaration (sym (declaration_same w a d b only u c h).0) ∙ f)

abbrev pub OnlyAt : List Kind → ℕ → ℕ → Tree → ℕ → Type 0
OnlyAt ks n a t b = (u : Tree) → (c : ℕ) → Reads ks n u a c → Stops ks n c → (t ≡ u) × (b ≡ c)

abbrev pub FailsAt : List Kind → ℕ → ℕ → Stop → Type 0
FailsAt ks n a e = (u : Tree) → (c : ℕ) → Reads ks n u a c → Stops ks n c → IsWant e

-- the same for whoever stops under what is shown in front of the part
pub only_shown : (w : Words) → (ks : List Kind) → (n a : ℕ) → ks ≡ shown_from w a → (t : Tree) → (b : ℕ) → OnlyAt ks n a t b → (u : Tree) → (c : ℕ)
    → Reads (shown_from w a) n u a c → Stops (shown w) n c → (t ≡ u) × (b ≡ c)
only_shown w ks n a e t b only u c h s =
    only u c (subst (λ x. Reads x n u a c) (sym e) h) (subst (λ x. Stops x n c) (sym e) (stops_there w n a c s))

pub fails_shown : (w : Words) → (ks : List Kind) → (n a : ℕ) → ks ≡ shown_from w a → (e : Stop) → FailsAt ks n a e → (u : Tree) → (c : ℕ)
    → Reads (shown_from w a) n u a c → Stops (shown w) n c → IsWant e
fails_shown w ks n a is e fails u c h s =
    fails u c (subst (λ x. Reads x n u a c) (sym is) h) (subst (λ x. Stops x n c) (sym is) (stops_there w n a c s))

-- What stands in front of statements, as the parser finds it.
use Rattle.std.proofs.Common.{◌≡◌, refl, ap, sym, ◌∙◌, subst, ℕ, ◌+◌, ◌<◌, ◌≤◌, length, arith, Bool, true, false, true≢false, Option, None, Some}
use Rattle.tree_data.specs.Statements.{Lead, Label_of, Case_of, Default_label_of, Switch_of, While_of, For_of, For_declaring_of}
use Rattle.tree_data.specs.Trees.{Tree, Heading}
use Rattle.c_parser.specs.declared.answers.Stop.{Stop}
use Rattle.c_parser.specs.declared.kinds.Kind.{Kind}
use Rattle.c_parser.specs.declared.kinds.Kind.TheVariants.{OpenParen, CloseParen, Semicolon, Colon, Case, Default, Switch, While, For}
use Rattle.c_parser.specs.Parts.{PartsLaw, FoundExpression, FoundDeclaration, HoldsDeclaration, past_declaration, starts_declaration}
use Rattle.c_parser.specs.Reading.{Reads, Stops, IsWant}
use Rattle.c_parser.specs.Words.{Words, shown, shown_from, kind_in}
use Rattle.stmt_parser.specs.Found.{FoundOptional, FoundTest, FoundTail, FoundLead, FailsStatement, Alike}
use Rattle.stmt_parser.specs.Fronts.{labels_at, is_colon}
use Rattle.stmt_parser.specs.InForce.{past_optional, inside}
use Rattle.stmt_parser.specs.Reading.{HoldsOptional, HoldsTest, HoldsLead}
use Rattle.stmt_parser.proofs.FrontLemmas.{token_inside}
use Rattle.stmt_parser.proofs.InForceLemmas.{optional_blind}
use Rattle.stmt_parser.proofs.Marks.{code_of, coded, stops_before, ended, start_declares_not, declaring_code}
use Rattle.stmt_parser.proofs.PartsRead.{optional_kinds, alike_itself, semicolon_seen, closing_seen, FailsTail, OnlyEnded, FailsEnded}
use Rattle.stmt_parser.proofs.Views.{labels_parts, first_lead, case_lead, default_lead, switch_lead, while_lead, for_lead}

-- whatever holds of each lead of a kind: at a place where that kind stands
lead_fails : PartsLaw → (w : Words) → (a i : ℕ) → code_of (kind_in w a) ≡ i → 2 ≤ i → i ≤ 7 → (e : Stop)
    → ((l : Lead) → (n : ℕ) → HoldsLead w l a n → IsWant e) → FailsStatement w a e
lead_fails law w a i k low high e f s b h ends =
    first_lead law w a (omega (arith, k, low)) (omega (arith, k, high)) (λ l ls c n m b' hl hs hc. f l n hl) s b h

-- name :
pub label_found : (w : Words) → (a : ℕ) → labels_at w a ≡ true → FoundLead w a (Label_of a (a + 1)) (a + 2)
label_found w a h =
    let parts = labels_parts w a h in
    let le : a + 1 < length w.kinds = token_inside is_colon refl w (a + 1) Colon parts.1 refl in
    record { reads = (refl, parts.0, refl, parts.1, omega arith); alone = refl; forth = omega arith; inside = omega (arith, le) }

-- case constant-expression :
pub case_by : PartsLaw → (w : Words) → (a : ℕ) → kind_in w a ≡ Case → (e : Stop)
    → ((t : Tree) → (c : ℕ) → Reads (shown_from w (a + 1)) 3 t (a + 1) c → Stops (shown w) 3 c → kind_in w c ≡ Colon → IsWant e) → FailsStatement w a e
case_by law w a k e f =
    lead_fails law w a 2 (coded w a Case k) (omega arith) (omega arith) e
    (case_lead w a k (λ p t c b h. f t c h.2 (stops_before w 3 c (omega arith) (ended w c Colon h.3 refl)) h.3))

pub case_fails : PartsLaw → (w : Words) → (a : ℕ) → kind_in w a ≡ Case → (e : Stop)
    → ((t : Tree) → (c : ℕ) → Reads (shown_from w (a + 1)) 3 t (a + 1) c → Stops (shown w) 3 c → IsWant e) → FailsStatement w a e
case_fails law w a k e f = case_by law w a k e (λ t c r s m. f t c r s)

pub case_uncoloned : PartsLaw → (w : Words) → (a : ℕ) → kind_in w a ≡ Case → (u : Tree) → (m : ℕ)
    → ((t : Tree) → (c : ℕ) → Reads (shown_from w (a + 1)) 3 t (a + 1) c → Stops (shown w) 3 c → (u ≡ t) × (m ≡ c)) → (kind_in w m ≡ Colon → ⊥)
    → (e : Stop) → FailsStatement w a e
case_uncoloned law w a k u m only lack e = case_by law w a k e (λ t c r s q. absurd (lack (ap (kind_in w) (only t c r s).1 ∙ q)))

pub case_found : (w : Words) → (a : ℕ) → kind_in w a ≡ Case → (t : Tree) → (c : ℕ) → FoundExpression w 3 (a + 1) t c → kind_in w c ≡ Colon
    → c < length w.kinds → FoundLead w a (Case_of a t c) (c + 1)
case_found w a k t c f q le =
    let forth : a + 1 < c = f.forth in
    record { reads = (refl, k, f.reads, q, refl); alone = refl; forth = omega (arith, forth); inside = omega (arith, le) }

-- default :
pub default_fails : PartsLaw → (w : Words) → (a : ℕ) → kind_in w a ≡ Default → (kind_in w (a + 1) ≡ Colon → ⊥) → (e : Stop) → FailsStatement w a e
default_fails law w a k lack e =
    lead_fails law w a 3 (coded w a Default k) (omega arith) (omega arith) e
    (default_lead w a k (λ p c b h. absurd (lack (ap (kind_in w) (sym h.2) ∙ h.3))))

pub default_found : (w : Words) → (a : ℕ) → kind_in w a ≡ Default → kind_in w (a + 1) ≡ Colon → a + 1 < length w.kinds
    → FoundLead w a (Default_label_of a (a + 1)) (a + 2)
default_found w a k q le =
    record { reads = (refl, k, refl, q, omega arith); alone = refl; forth = omega arith; inside = omega (arith, le) }

-- switch ( expression ), while ( expression )
pub switch_fails : PartsLaw → (w : Words) → (a : ℕ) → kind_in w a ≡ Switch → (e : Stop)
    → ((o : ℕ) → (t : Tree) → (c b : ℕ) → HoldsTest w o t c (a + 1) b → IsWant e) → FailsStatement w a e
switch_fails law w a k e f =
    lead_fails law w a 5 (coded w a Switch k) (omega arith) (omega arith) e (switch_lead w a k (λ p o t c b h. f o t c b h.2))

pub switch_found : (w : Words) → (a : ℕ) → kind_in w a ≡ Switch → (t : Tree) → (c : ℕ) → FoundTest w (a + 1) t c
    → FoundLead w a (Switch_of a (a + 1) t c) (c + 1)
switch_found w a k t c f =
    let forth : a + 1 < c = f.forth in
    let inner : c < length w.kinds = f.inside in
    record { reads = (refl, k, f.reads); alone = refl; forth = omega (arith, forth); inside = omega (arith, inner) }

pub while_fails : PartsLaw → (w : Words) → (a : ℕ) → kind_in w a ≡ While → (e : Stop)
    → ((o : ℕ) → (t : Tree) → (c b : ℕ) → HoldsTest w o t c (a + 1) b → IsWant e) → FailsStatement w a e
while_fails law w a k e f =
    lead_fails law w a 6 (coded w a While k) (omega arith) (omega arith) e (while_lead w a k (λ p o t c b h. f o t c b h.2))

pub while_found : (w : Words) → (a : ℕ) → kind_in w a ≡ While → (t : Tree) → (c : ℕ) → FoundTest w (a + 1) t c
    → FoundLead w a (While_of a (a + 1) t c) (c + 1)
while_found w a k t c f =
    let forth : a + 1 < c = f.forth in
    let inner : c < length w.kinds = f.inside in
    record { reads = (refl, k, f.reads); alone = refl; forth = omega (arith, forth); inside = omega (arith, inner) }

-- for ( .. )
pub for_unopened : PartsLaw → (w : Words) → (a : ℕ) → kind_in w a ≡ For → (kind_in w (a + 1) ≡ OpenParen → ⊥) → (e : Stop) → FailsStatement w a e
for_unopened law w a k lack e =
    lead_fails law w a 7 (coded w a For k) (omega arith) (omega arith) e
    (for_lead w a k (λ p o x m y n z c b h. absurd (lack (ap (kind_in w) (sym h.2) ∙ h.3)))
    (λ p o d y n z c b h. absurd (lack (ap (kind_in w) (sym h.3) ∙ h.4))))

-- what stands behind the `(` of one with a declaration
pub declaring_by : PartsLaw → (w : Words) → (a : ℕ) → kind_in w a ≡ For → starts_declaration (kind_in w (a + 2)) ≡ true → (e : Stop)
    → ((d : Heading) → (m : ℕ) → HoldsDeclaration w d (a + 2) m → (y : Option Tree) → (n : ℕ) → (z : Option Tree) → (c : ℕ)
    → HoldsOptional (past_declaration w d) y m n → kind_in w n ≡ Semicolon → HoldsOptional (past_optional (past_declaration w d) y) z (n + 1) c
    → kind_in w c ≡ CloseParen → IsWant e) → FailsStatement w a e
declaring_by law w a k st e f =
    lead_fails law w a 7 (coded w a For k) (omega arith) (omega arith) e
    (for_lead w a k
    (λ p o x m y n z c b h. absurd (undeclared law w (a + 2) st x m (from_opening w x o a m h.2 h.4) h.5))
    (λ p o d y n z c b h. f d h.0 (declared_from w d o a h.0 h.3 h.5) y n z c h.6 h.7 h.8 h.9))
  where
    place : (o a : ℕ) → o ≡ a + 1 → o + 1 ≡ a + 2
    place o a e = omega (arith, e)

    from_opening : (w : Words) → (x : Option Tree) → (o a m : ℕ) → o ≡ a + 1 → HoldsOptional w x (o + 1) m → HoldsOptional w x (a + 2) m
    from_opening w x o a m e h = subst (λ y. HoldsOptional w x y m) (place o a e) h

    declared_from : (w : Words) → (d : Heading) → (o a m : ℕ) → o ≡ a + 1 → HoldsDeclaration w d (o + 1) m → HoldsDeclaration w d (a + 2) m
    declared_from w d o a m e h = subst (λ y. HoldsDeclaration w d y m) (place o a e) h

    undeclared : PartsLaw → (w : Words) → (a : ℕ) → starts_declaration (kind_in w a) ≡ true → (x : Option Tree) → (m : ℕ) → HoldsOptional w x a m
        → kind_in w m ≡ Semicolon → ⊥
    undeclared law w a st None m h q =
        let low : code_of (kind_in w a) ≤ 1 = declaring_code (kind_in w a) st in
        let here : code_of (kind_in w a) ≡ 8 = ap (λ x. code_of (kind_in w x)) (sym h) ∙ coded w m Semicolon q in
        omega (arith, low, here)
    undeclared law w a st (Some t) m h q = start_declares_not (kind_in w a) (law.expression_starts w 1 t a m h) st

pub declaring_unbegun : PartsLaw → (w : Words) → (a : ℕ) → kind_in w a ≡ For → starts_declaration (kind_in w (a + 2)) ≡ true → (e : Stop)
    → ((d : Heading) → (m : ℕ) → HoldsDeclaration w d (a + 2) m → IsWant e) → FailsStatement w a e
declaring_unbegun law w a k st e f = declaring_by law w a k st e (λ d m h y n z c g q r p. f d m h)

pub alike_behind : PartsLaw → (w v : Words) → (d : Heading) → v ≡ past_declaration w d → Alike v w
alike_behind law w v d past f i a = ap (λ x. f (kind_in x a)) past ∙ law.declaration_blind f i w d a

back : (v w : Words) → Alike v w → Alike w v
back v w alike f i a = sym (alike f i a)

pub length_behind : PartsLaw → (w v : Words) → (d : Heading) → v ≡ past_declaration w d → length w.kinds ≡ length v.kinds
length_behind law w v d past = ap length (sym (ap (λ x. x.kinds) past ∙ law.declaration_kinds w d))

fails_outside : (v w : Words) → Alike v w → (a : ℕ) → (e : Stop) → FailsTail v v a e → FailsTail w v a e
fails_outside v w alike a e f y n z c h k g q = f y n z c h (semicolon_seen v w alike n k) g (closing_seen v w alike c q)

found_outside : (v w : Words) → Alike v w → (a : ℕ) → (y : Option Tree) → (n : ℕ) → (z : Option Tree) → (c : ℕ) → FoundTail v v a y n z c
    → FoundTail w v a y n z c
found_outside v w alike a y n z c f = record {
  test = f.test;
  semicolon = semicolon_seen w v (back v w alike) n f.semicolon;
  step = f.step;
  closing = closing_seen w v (back v w alike) c f.closing;
  forth = f.forth;
  inside = f.inside;
}

pub declaring_fails : PartsLaw → (w : Words) → (a : ℕ) → kind_in w a ≡ For → starts_declaration (kind_in w (a + 2)) ≡ true → (u : Heading) → (p : ℕ)
    → ((d : Heading) → (m : ℕ) → HoldsDeclaration w d (a + 2) m → (u ≡ d) × (p ≡ m)) → (v : Words) → v ≡ past_declaration w u → (e : Stop)
    → FailsTail v v p e → FailsStatement w a e
declaring_fails law w a k st u p only v past e f' =
    let f : FailsTail w v p e = fails_outside v w (alike_behind law w v u past) p e f' in
    declaring_by law w a k st e
    (λ d m h y n z c g q r t.
    let same = only d m h in
    let to : past_declaration w d ≡ v = ap (past_declaration w) (sym same.0) ∙ sym past in
    f y n z c
    (subst (λ x. HoldsOptional v y x n) (sym same.1) (subst (λ x. HoldsOptional x y m n) to g))
    q
    (subst (λ x. HoldsOptional (past_optional x y) z (n + 1) c) to r)
    t)

pub declaring_found : PartsLaw → (w : Words) → (a : ℕ) → kind_in w a ≡ For → kind_in w (a + 1) ≡ OpenParen → (d : Heading) → (m : ℕ) → FoundDeclaration w (a + 2) d m
    → (v : Words) → v ≡ past_declaration w d → (y : Option Tree) → (n : ℕ) → (z : Option Tree) → (c : ℕ) → FoundTail v v m y n z c
    → FoundLead w a (For_declaring_of a (a + 1) d y n z c) (c + 1)
declaring_found law w a k o d m f v past y n z c g' =
    let g : FoundTail w v m y n z c = found_outside v w (alike_behind law w v d past) m y n z c g' in
    let same : length v.kinds ≡ length w.kinds = sym (length_behind law w v d past) in
    let first : a + 2 < m = f.forth in
    let second : m ≤ c = g.forth in
    let inner : c < length v.kinds = g.inside in
    let start : a + 2 ≡ a + 1 + 1 = omega arith in
    record {
      reads = (
        m,
        refl,
        k,
        refl,
        o,
        subst (λ x. HoldsDeclaration w d x m) start f.reads,
        subst (λ x. HoldsOptional x y m n) past g.test,
        g.semicolon,
        subst (λ x. HoldsOptional (past_optional x y) z (n + 1) c) past g.step,
        g.closing,
        refl,
      );
      alone = refl;
      forth = omega (arith, first, second);
      inside = omega (arith, inner, same);
    }

pub declaring_past : (w v s : Words) → (d : Heading) → v ≡ past_declaration w d → (k o : ℕ) → (y : Option Tree) → (n : ℕ) → (z : Option Tree)
    → (c : ℕ) → s ≡ past_optional (past_optional v y) z → s ≡ inside w (For_declaring_of k o d y n z c)
declaring_past w v s d past k o y n z c is = is ∙ ap (λ x. past_optional (past_optional x y) z) past

-- and with none
pub loop_by : PartsLaw → (w : Words) → (a : ℕ) → kind_in w a ≡ For → starts_declaration (kind_in w (a + 2)) ≡ false → (e : Stop)
    → ((x : Option Tree) → (m : ℕ) → HoldsOptional w x (a + 2) m → kind_in w m ≡ Semicolon → (y : Option Tree) → (n : ℕ) → (z : Option Tree)
    → (c : ℕ) → HoldsOptional (past_optional w x) y (m + 1) n → kind_in w n ≡ Semicolon
    → HoldsOptional (past_optional (past_optional w x) y) z (n + 1) c → kind_in w c ≡ CloseParen → IsWant e) → FailsStatement w a e
loop_by law w a k st e f =
    lead_fails law w a 7 (coded w a For k) (omega arith) (omega arith) e
    (for_lead w a k
    (λ p o x m y n z c b h. f x m (from_opening w x o a m h.2 h.4) h.5 y n z c h.6 h.7 h.8 h.9)
    (λ p o d y n z c b h.
    absurd (true≢false (sym (law.declaration_starts w d (a + 2) h.0 (declared_from w d o a h.0 h.3 h.5)) ∙ st))))
  where
    place : (o a : ℕ) → o ≡ a + 1 → o + 1 ≡ a + 2
    place o a e = omega (arith, e)

    from_opening : (w : Words) → (x : Option Tree) → (o a m : ℕ) → o ≡ a + 1 → HoldsOptional w x (o + 1) m → HoldsOptional w x (a + 2) m
    from_opening w x o a m e h = subst (λ y. HoldsOptional w x y m) (place o a e) h

    declared_from : (w : Words) → (d : Heading) → (o a m : ℕ) → o ≡ a + 1 → HoldsDeclaration w d (o + 1) m → HoldsDeclaration w d (a + 2) m
    declared_from w d o a m e h = subst (λ y. HoldsDeclaration w d y m) (place o a e) h

pub loop_unbegun : PartsLaw → (w : Words) → (a : ℕ) → kind_in w a ≡ For → starts_declaration (kind_in w (a + 2)) ≡ false → (e : Stop)
    → FailsEnded w (a + 2) e → FailsStatement w a e
loop_unbegun law w a k st e f = loop_by law w a k st e (λ x m h q y n z c g r p t. f x m h q)

-- the identifiers behind the first part differ in typedef names alone
first_alike : PartsLaw → (w : Words) → (x : Option Tree) → (v : Words) → v ≡ past_optional w x → Alike v w
first_alike law w x v is f i a = ap (λ y. f (kind_in y a)) is ∙ optional_blind law f i w x a

pub loop_fails : PartsLaw → (w : Words) → (a : ℕ) → kind_in w a ≡ For → starts_declaration (kind_in w (a + 2)) ≡ false → (u : Option Tree) → (j : ℕ)
    → OnlyEnded w (a + 2) u j → (v : Words) → v ≡ past_optional w u → (e : Stop) → FailsTail v v (j + 1) e → FailsStatement w a e
loop_fails law w a k st u j only v is e f' =
    let f : FailsTail w v (j + 1) e = fails_outside v w (first_alike law w u v is) (j + 1) e f' in
    loop_by law w a k st e
    (λ x m h q y n z c g r p t.
    let same = only x m h q in
    let to : past_optional w x ≡ v = ap (past_optional w) (sym same.0) ∙ sym is in
    f y n z c
    (subst (λ i. HoldsOptional v y (i + 1) n) (sym same.1) (subst (λ i. HoldsOptional i y (m + 1) n) to g))
    r
    (subst (λ i. HoldsOptional (past_optional i y) z (n + 1) c) to p)
    t)

pub loop_found : PartsLaw → (w : Words) → (a : ℕ) → kind_in w a ≡ For → kind_in w (a + 1) ≡ OpenParen → (x : Option Tree) → (m : ℕ)
    → FoundOptional w (a + 2) x m → kind_in w m ≡ Semicolon → (v : Words) → v ≡ past_optional w x → (y : Option Tree) → (n : ℕ) → (z : Option Tree)
    → (c : ℕ) → FoundTail v v (m + 1) y n z c → FoundLead w a (For_of a (a + 1) x m y n z c) (c + 1)
loop_found law w a k o x m f q v is y n z c g' =
    let g : FoundTail w v (m + 1) y n z c = found_outside v w (first_alike law w x v is) (m + 1) y n z c g' in
    let first : a + 2 ≤ m = f.forth in
    let second : m + 1 ≤ c = g.forth in
    let inner : c < length v.kinds = g.inside in
    let same : length v.kinds ≡ length w.kinds = ap (λ y. length y.kinds) is ∙ ap (λ ks. length ks) (optional_kinds law w x) in
    let start : a + 2 ≡ a + 1 + 1 = omega arith in
    record {
      reads = (
        refl,
        k,
        refl,
        o,
        subst (λ i. HoldsOptional w x i m) start f.reads,
        q,
        subst (λ i. HoldsOptional i y (m + 1) n) is g.test,
        g.semicolon,
        subst (λ i. HoldsOptional (past_optional i y) z (n + 1) c) is g.step,
        g.closing,
        refl,
      );
      alone = refl;
      forth = omega (arith, first, second);
      inside = omega (arith, inner, same);
    }

pub loop_past : (w v s : Words) → (k o : ℕ) → (x : Option Tree) → v ≡ past_optional w x → (m : ℕ) → (y : Option Tree) → (n : ℕ) → (z : Option Tree)
    → (c : ℕ) → s ≡ past_optional (past_optional v y) z → s ≡ inside w (For_of k o x m y n z c)
loop_past w v s k o x is m y n z c e = e ∙ ap (λ i. past_optional (past_optional i y) z) is

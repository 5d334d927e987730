-- Statements with nothing in front of them, as the parser finds them.
use Rattle.std.proofs.Common.{◌≡◌, refl, ap, sym, ◌∙◌, subst, ℕ, ◌+◌, ◌<◌, ◌≤◌, length, arith, true, false, true≢false, Option}
use Rattle.tree_data.specs.Statements.{Statement, Core, Expression_of, Goto_of, Continue_of, Break_of, Return_of, Do_of, bare}
use Rattle.tree_data.specs.Trees.{Tree}
use Rattle.c_parser.specs.declared.answers.Stop.{Stop}
use Rattle.c_parser.specs.declared.kinds.Kind.TheVariants.{Semicolon, Goto, Continue, Break, Return, Do, While}
use Rattle.c_parser.specs.Kinds.{is_word}
use Rattle.c_parser.specs.Parts.{PartsLaw}
use Rattle.c_parser.specs.Reading.{IsWant}
use Rattle.c_parser.specs.Words.{Words, kind_in}
use Rattle.stmt_parser.specs.Found.{FoundOptional, FoundTest, FoundStatement, FailsStatement}
use Rattle.stmt_parser.specs.Fronts.{labels_at, is_marked}
use Rattle.stmt_parser.specs.Reading.{HoldsOptional, HoldsTest, HoldsStatement, HoldsCore, Ends}
use Rattle.stmt_parser.proofs.Marks.{code_of, coded}
use Rattle.stmt_parser.proofs.OneReading.{closed_ends, behind_ends, statement_only}
use Rattle.stmt_parser.proofs.PartsRead.{FailsEnded}
use Rattle.stmt_parser.proofs.Views.{bare_core, plain_statement, goto_core, continue_core, break_core, return_core, do_core}

pub bare_found : (w : Words) → (a : ℕ) → (c : Core) → (b : ℕ) → HoldsCore w c a b → a < b → b ≤ length w.kinds → FoundStatement w a (bare c) b
bare_found w a c b h lt le =
    let reads : HoldsStatement w (bare c) a b = (a, refl, h) in
    record { reads = reads; ends = closed_ends w (bare c) b refl; forth = lt; inside = le }

-- whatever holds of each core at a place holds of each statement there, where no lead begins
pub core_fails : (w : Words) → (a i : ℕ) → code_of (kind_in w a) ≡ i → 8 ≤ i → (e : Stop)
    → ((c : Core) → (b : ℕ) → HoldsCore w c a b → IsWant e) → FailsStatement w a e
core_fails w a i k high e f s b h ends = bare_core w a (omega (arith, k, high)) f s b h

-- expression opt ;
pub plain_fails : (w : Words) → (a : ℕ) → labels_at w a ≡ false → is_marked (kind_in w a) ≡ false → (e : Stop)
    → FailsEnded w a e → FailsStatement w a e
plain_fails w a lack un e f s b h ends = plain_statement w a lack un (λ x m b' g. f x m g.0 g.1) s b h

pub plain_found : (w : Words) → (a : ℕ) → (x : Option Tree) → (m : ℕ) → FoundOptional w a x m → kind_in w m ≡ Semicolon → m < length w.kinds
    → FoundStatement w a (bare (Expression_of x m)) (m + 1)
plain_found w a x m f q le =
    let forth : a ≤ m = f.forth in
    bare_found w a (Expression_of x m) (m + 1) (f.reads, q, refl) (omega (arith, forth)) (omega (arith, le))

-- goto identifier ;
pub goto_unnamed : PartsLaw → (w : Words) → (a : ℕ) → kind_in w a ≡ Goto → is_word (kind_in w (a + 1)) ≡ false → (e : Stop) → FailsStatement w a e
goto_unnamed law w a k lack e =
    core_fails w a 9 (coded w a Goto k) (omega arith) e
    (goto_core law w a k (λ p n m b h. absurd (true≢false (sym h.3 ∙ ap (λ i. is_word (kind_in w i)) h.2 ∙ lack))))

pub goto_unended : PartsLaw → (w : Words) → (a : ℕ) → kind_in w a ≡ Goto → (kind_in w (a + 2) ≡ Semicolon → ⊥) → (e : Stop) → FailsStatement w a e
goto_unended law w a k lack e =
    core_fails w a 9 (coded w a Goto k) (omega arith) e (goto_core law w a k (λ p n m b h. absurd (lack (ap (kind_in w) (third n m h.2 h.4) ∙ h.5))))
  where
    third : (n m : ℕ) → n ≡ a + 1 → m ≡ n + 1 → a + 2 ≡ m
    third n m e f = omega (arith, e, f)

pub goto_found : (w : Words) → (a : ℕ) → kind_in w a ≡ Goto → is_word (kind_in w (a + 1)) ≡ true → kind_in w (a + 2) ≡ Semicolon
    → a + 2 < length w.kinds → FoundStatement w a (bare (Goto_of a (a + 1) (a + 2))) (a + 3)
goto_found w a k n q le =
    bare_found w a (Goto_of a (a + 1) (a + 2)) (a + 3) (refl, k, refl, n, omega arith, q, omega arith) (omega arith) (omega (arith, le))

-- continue ; break ;
pub continue_unended : PartsLaw → (w : Words) → (a : ℕ) → kind_in w a ≡ Continue → (kind_in w (a + 1) ≡ Semicolon → ⊥) → (e : Stop)
    → FailsStatement w a e
continue_unended law w a k lack e =
    core_fails w a 10 (coded w a Continue k) (omega arith) e (continue_core law w a k (λ p m b h. absurd (lack (ap (kind_in w) (sym h.2) ∙ h.3))))

pub continue_found : (w : Words) → (a : ℕ) → kind_in w a ≡ Continue → kind_in w (a + 1) ≡ Semicolon → a + 1 < length w.kinds
    → FoundStatement w a (bare (Continue_of a (a + 1))) (a + 2)
continue_found w a k q le =
    bare_found w a (Continue_of a (a + 1)) (a + 2) (refl, k, refl, q, omega arith) (omega arith) (omega (arith, le))

pub break_unended : PartsLaw → (w : Words) → (a : ℕ) → kind_in w a ≡ Break → (kind_in w (a + 1) ≡ Semicolon → ⊥) → (e : Stop)
    → FailsStatement w a e
break_unended law w a k lack e =
    core_fails w a 11 (coded w a Break k) (omega arith) e (break_core law w a k (λ p m b h. absurd (lack (ap (kind_in w) (sym h.2) ∙ h.3))))

pub break_found : (w : Words) → (a : ℕ) → kind_in w a ≡ Break → kind_in w (a + 1) ≡ Semicolon → a + 1 < length w.kinds
    → FoundStatement w a (bare (Break_of a (a + 1))) (a + 2)
break_found w a k q le =
    bare_found w a (Break_of a (a + 1)) (a + 2) (refl, k, refl, q, omega arith) (omega arith) (omega (arith, le))

-- return expression opt ;
pub return_fails : PartsLaw → (w : Words) → (a : ℕ) → kind_in w a ≡ Return → (e : Stop) → FailsEnded w (a + 1) e → FailsStatement w a e
return_fails law w a k e f = core_fails w a 12 (coded w a Return k) (omega arith) e (return_core law w a k (λ p x m b h. f x m h.2 h.3))

pub return_found : (w : Words) → (a : ℕ) → kind_in w a ≡ Return → (x : Option Tree) → (m : ℕ) → FoundOptional w (a + 1) x m → kind_in w m ≡ Semicolon
    → m < length w.kinds → FoundStatement w a (bare (Return_of a x m)) (m + 1)
return_found w a k x m f q le =
    let forth : a + 1 ≤ m = f.forth in
    bare_found w a (Return_of a x m) (m + 1) (refl, k, f.reads, q, refl) (omega (arith, forth)) (omega (arith, le))

-- do statement while ( expression ) ;
pub do_by : PartsLaw → (w : Words) → (a : ℕ) → kind_in w a ≡ Do → (e : Stop)
    → ((s : Statement) → (v : ℕ) → HoldsStatement w s (a + 1) v → Ends w s v → kind_in w v ≡ While → (o : ℕ) → (t : Tree) → (c m : ℕ)
    → HoldsTest w o t c (v + 1) m → kind_in w m ≡ Semicolon → IsWant e) → FailsStatement w a e
do_by law w a k e f =
    core_fails w a 13 (coded w a Do k) (omega arith) e
    (do_core law w a k (λ p s v o t c m b h. f s v h.2 (behind_ends w s v While h.3 refl) h.3 o t c m h.4 h.5))

pub do_unbegun : PartsLaw → (w : Words) → (a : ℕ) → kind_in w a ≡ Do → (e : Stop) → FailsStatement w (a + 1) e → FailsStatement w a e
do_unbegun law w a k e f = do_by law w a k e (λ s v h n q o t c m g r. f s v h n)

pub do_unlooped : PartsLaw → (w : Words) → (a : ℕ) → kind_in w a ≡ Do → (s : Statement) → (j : ℕ) → FoundStatement w (a + 1) s j
    → (kind_in w j ≡ While → ⊥) → (e : Stop) → FailsStatement w a e
do_unlooped law w a k s j found lack e =
    do_by law w a k e
    (λ s' v h n q o t c m g r.
    absurd (lack (ap (kind_in w) (statement_only law s w (a + 1) j found.reads found.ends s' v h n).1 ∙ q)))

pub do_untested : PartsLaw → (w : Words) → (a : ℕ) → kind_in w a ≡ Do → (s : Statement) → (j : ℕ) → FoundStatement w (a + 1) s j → (e : Stop)
    → ((o : ℕ) → (t : Tree) → (c b : ℕ) → HoldsTest w o t c (j + 1) b → IsWant e) → FailsStatement w a e
do_untested law w a k s j found e f =
    do_by law w a k e
    (λ s' v h n q o t c m g r.
    let same = statement_only law s w (a + 1) j found.reads found.ends s' v h n in
    f o t c m (subst (λ i. HoldsTest w o t c (i + 1) m) (sym same.1) g))

pub do_unended : PartsLaw → (w : Words) → (a : ℕ) → kind_in w a ≡ Do → (s : Statement) → (j : ℕ) → FoundStatement w (a + 1) s j → (u : Tree) → (p : ℕ)
    → ((o : ℕ) → (t : Tree) → (c b : ℕ) → HoldsTest w o t c (j + 1) b → (u ≡ t) × (p ≡ c)) → (kind_in w (p + 1) ≡ Semicolon → ⊥)
    → (e : Stop) → FailsStatement w a e
do_unended law w a k s j found u p only lack e =
    do_by law w a k e
    (λ s' v h n q o t c m g r.
    let same = statement_only law s w (a + 1) j found.reads found.ends s' v h n in
    let last = only o t c m (subst (λ i. HoldsTest w o t c (i + 1) m) (sym same.1) g) in
    absurd (lack (ap (λ i. kind_in w (i + 1)) last.1 ∙ ap (kind_in w) (sym g.4) ∙ r)))

pub do_found : (w : Words) → (a : ℕ) → kind_in w a ≡ Do → (s : Statement) → (j : ℕ) → FoundStatement w (a + 1) s j → kind_in w j ≡ While
    → (t : Tree) → (c : ℕ) → FoundTest w (j + 1) t c → kind_in w (c + 1) ≡ Semicolon → c + 1 < length w.kinds
    → FoundStatement w a (bare (Do_of a s j (j + 1) t c (c + 1))) (c + 2)
do_found w a k s j f q t c g r le =
    let first : a + 1 < j = f.forth in
    let second : j + 1 < c = g.forth in
    bare_found w a (Do_of a s j (j + 1) t c (c + 1)) (c + 2) (refl, k, f.reads, q, g.reads, r, omega arith)
    (omega (arith, first, second))
    (omega (arith, le))

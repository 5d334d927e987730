-- No two statements stand from one place on, where no `else` stands behind them that an `if` of theirs could have.
use Rattle.std.proofs.Common.{◌≡◌, refl, ap, sym, ◌∙◌, subst, ℕ, ◌+◌, ◌≤◌, arith, Bool, true, false, ◌&&◌, true≢false, Option, None, Some}
use Rattle.tree_data.specs.Statements.{Statement, Statement_of, Core, Block_of, Expression_of, Goto_of, Continue_of, Break_of, Return_of, Do_of, Lead, Label_of, Case_of, Default_label_of, If_of, If_else_of, Switch_of, While_of, For_of, For_declaring_of, Leads, No_leads, Lead_then, Item, Declared_of, Stated_of, Items, No_items, Item_then, is_closed, takes_no_else, take_no_else}
use Rattle.tree_data.specs.Trees.{Tree, Name_of, Heading}
use Rattle.c_parser.specs.declared.kinds.Kind.{Kind}
use Rattle.c_parser.specs.declared.kinds.Kind.TheVariants.{Identifier, OpenBrace, CloseBrace, Colon, Semicolon, If, Else, Switch, Case, Default, While, Do, For, Goto, Continue, Break, Return}
use Rattle.c_parser.specs.Kinds.{is_word}
use Rattle.c_parser.specs.Parts.{PartsLaw, HoldsDeclaration, past_tree, past_declaration}
use Rattle.c_parser.specs.Reading.{Reads}
use Rattle.c_parser.specs.Words.{Words, shown_from, kind_in}
use Rattle.stmt_parser.specs.Found.{EndsItem}
use Rattle.stmt_parser.specs.InForce.{past_optional, inside, all_inside, past_item}
use Rattle.stmt_parser.specs.Reading.{HoldsOptional, HoldsTest, HoldsStatement, HoldsCore, HoldsLead, HoldLeads, HoldsItem, HoldItems, is_else, Ends}
use Rattle.stmt_parser.proofs.InForceLemmas.{else_blind, begins_blind, close_blind, optional_blind, inside_blind, item_blind}
use Rattle.stmt_parser.proofs.PartsOnly.{tree_only, optional_only, test_only, Alike_but_names, tail_only, first_apart}
use Rattle.stmt_parser.proofs.Marks.{code_of, clash, coded, word_code, start_code, start_word, declaring_code, ended, begins_item, word_begins, start_begins, declaring_begins, begun_no_else, no_else_of, is_close, close_begins_not, close_else_not}

-- what begins how
abbrev pub lead_code : Lead → ℕ
lead_code (Label_of n c) = 1
lead_code (Case_of k t c) = 2
lead_code (Default_label_of k c) = 3
lead_code (If_of k o t c) = 4
lead_code (If_else_of k o t c s e) = 4
lead_code (Switch_of k o t c) = 5
lead_code (While_of k o t c) = 6
lead_code (For_of k o x m y n z c) = 7
lead_code (For_declaring_of k o d y n z c) = 7

pub lead_coded : (ks : Words) → (l : Lead) → (a m : ℕ) → HoldsLead ks l a m → code_of (kind_in ks a) ≡ lead_code l
lead_coded ks (Label_of n c) a b h = word_code (kind_in ks a) h.1
lead_coded ks (Case_of k t c) a b h = coded ks a Case h.1
lead_coded ks (Default_label_of k c) a b h = coded ks a Default h.1
lead_coded ks (If_of k o t c) a b h = coded ks a If h.1
lead_coded ks (If_else_of k o t c s e) a b h = coded ks a If h.2
lead_coded ks (Switch_of k o t c) a b h = coded ks a Switch h.1
lead_coded ks (While_of k o t c) a b h = coded ks a While h.1
lead_coded ks (For_of k o x m y n z c) a b h = coded ks a For h.1
lead_coded ks (For_declaring_of k o d y n z c) a b h = coded ks a For h.2

pub lead_low : (l : Lead) → lead_code l ≤ 7
lead_low (Label_of n c) = omega arith
lead_low (Case_of k t c) = omega arith
lead_low (Default_label_of k c) = omega arith
lead_low (If_of k o t c) = omega arith
lead_low (If_else_of k o t c s e) = omega arith
lead_low (Switch_of k o t c) = omega arith
lead_low (While_of k o t c) = omega arith
lead_low (For_of k o x m y n z c) = omega arith
lead_low (For_declaring_of k o d y n z c) = omega arith

-- where a lead begins with an identifier it is a label
pub labelled : (ks : Words) → (l : Lead) → (a m : ℕ) → HoldsLead ks l a m → code_of (kind_in ks a) ≤ 1
    → (is_word (kind_in ks a) ≡ true) × (kind_in ks (a + 1) ≡ Colon)
labelled ks (Label_of n c) a b h le = (h.1, ap (λ x. kind_in ks x) (sym h.2) ∙ h.3)
labelled ks (Case_of k t c) a b h le =
    let here : code_of (kind_in ks a) ≡ 2 = lead_coded ks (Case_of k t c) a b h in
    absurd (omega arith)
labelled ks (Default_label_of k c) a b h le =
    let here : code_of (kind_in ks a) ≡ 3 = lead_coded ks (Default_label_of k c) a b h in
    absurd (omega arith)
labelled ks (If_of k o t c) a b h le =
    let here : code_of (kind_in ks a) ≡ 4 = lead_coded ks (If_of k o t c) a b h in
    absurd (omega arith)
labelled ks (If_else_of k o t c s e) a b h le =
    let here : code_of (kind_in ks a) ≡ 4 = lead_coded ks (If_else_of k o t c s e) a b h in
    absurd (omega arith)
labelled ks (Switch_of k o t c) a b h le =
    let here : code_of (kind_in ks a) ≡ 5 = lead_coded ks (Switch_of k o t c) a b h in
    absurd (omega arith)
labelled ks (While_of k o t c) a b h le =
    let here : code_of (kind_in ks a) ≡ 6 = lead_coded ks (While_of k o t c) a b h in
    absurd (omega arith)
labelled ks (For_of k o x m y n z c) a b h le =
    let here : code_of (kind_in ks a) ≡ 7 = lead_coded ks (For_of k o x m y n z c) a b h in
    absurd (omega arith)
labelled ks (For_declaring_of k o d y n z c) a b h le =
    let here : code_of (kind_in ks a) ≡ 7 = lead_coded ks (For_declaring_of k o d y n z c) a b h in
    absurd (omega arith)

pub expression_code : PartsLaw → (ks : Words) → (e : Option Tree) → (m a b : ℕ) → HoldsCore ks (Expression_of e m) a b → code_of (kind_in ks a) ≤ 8
expression_code law ks None m a b h =
    let here : code_of (kind_in ks a) ≡ 8 = ap (λ x. code_of (kind_in ks x)) (sym h.0) ∙ coded ks m Semicolon h.1 in
    omega arith
expression_code law ks (Some t) m a b h =
    let low : code_of (kind_in ks a) ≤ 1 = start_code (kind_in ks a) (law.expression_starts ks 1 t a m h.0) in
    omega arith

same_expression : PartsLaw → (ks : Words) → (e : Option Tree) → (m : ℕ) → (a b : ℕ) → HoldsCore ks (Expression_of e m) a b
    → (x : Core) → (b' : ℕ) → HoldsCore ks x a b' → (Expression_of e m ≡ x) × (b ≡ b')
same_expression law ks e m a b h (Block_of o' is' c') b' h' =
    let low : code_of (kind_in ks a) ≤ 8 = expression_code law ks e m a b h in
    let here : code_of (kind_in ks a) ≡ 14 = coded ks a OpenBrace h'.1 in
    absurd (omega arith)
same_expression law ks e m a b h (Expression_of e' m') b' h' =
    let r = optional_only law ks e a m h.0 (ended ks m Semicolon h.1 refl) e' m' h'.0 (ended ks m' Semicolon h'.1 refl) in
    (λ i. Expression_of (r.0 i) (r.1 i), h.2 ∙ ap (λ y. y + 1) r.1 ∙ sym h'.2)
same_expression law ks e m a b h (Goto_of k' n' m') b' h' =
    let low : code_of (kind_in ks a) ≤ 8 = expression_code law ks e m a b h in
    let here : code_of (kind_in ks a) ≡ 9 = coded ks a Goto h'.1 in
    absurd (omega arith)
same_expression law ks e m a b h (Continue_of k' m') b' h' =
    let low : code_of (kind_in ks a) ≤ 8 = expression_code law ks e m a b h in
    let here : code_of (kind_in ks a) ≡ 10 = coded ks a Continue h'.1 in
    absurd (omega arith)
same_expression law ks e m a b h (Break_of k' m') b' h' =
    let low : code_of (kind_in ks a) ≤ 8 = expression_code law ks e m a b h in
    let here : code_of (kind_in ks a) ≡ 11 = coded ks a Break h'.1 in
    absurd (omega arith)
same_expression law ks e m a b h (Return_of k' e' m') b' h' =
    let low : code_of (kind_in ks a) ≤ 8 = expression_code law ks e m a b h in
    let here : code_of (kind_in ks a) ≡ 12 = coded ks a Return h'.1 in
    absurd (omega arith)
same_expression law ks e m a b h (Do_of k' s' w' o' t' c' m') b' h' =
    let low : code_of (kind_in ks a) ≤ 8 = expression_code law ks e m a b h in
    let here : code_of (kind_in ks a) ≡ 13 = coded ks a Do h'.1 in
    absurd (omega arith)

same_goto : PartsLaw → (ks : Words) → (k n m : ℕ) → (a b : ℕ) → HoldsCore ks (Goto_of k n m) a b
    → (x : Core) → (b' : ℕ) → HoldsCore ks x a b' → (Goto_of k n m ≡ x) × (b ≡ b')
same_goto law ks k n m a b h (Block_of o' is' c') b' h' = clash (kind_in ks a) 9 14 (coded ks a Goto h.1) (coded ks a OpenBrace h'.1) (λ y. omega (arith, y))
same_goto law ks k n m a b h (Expression_of e' m') b' h' =
    let low : code_of (kind_in ks a) ≤ 8 = expression_code law ks e' m' a b' h' in
    let here : code_of (kind_in ks a) ≡ 9 = coded ks a Goto h.1 in
    absurd (omega arith)
same_goto law ks k n m a b h (Goto_of k' n' m') b' h' =
    let p : k ≡ k' = h.0 ∙ sym h'.0 in
    let q : n ≡ n' = h.2 ∙ sym h'.2 in
    let r : m ≡ m' = h.4 ∙ ap (λ y. y + 1) q ∙ sym h'.4 in
    (λ i. Goto_of (p i) (q i) (r i), h.6 ∙ ap (λ y. y + 1) r ∙ sym h'.6)
same_goto law ks k n m a b h (Continue_of k' m') b' h' = clash (kind_in ks a) 9 10 (coded ks a Goto h.1) (coded ks a Continue h'.1) (λ y. omega (arith, y))
same_goto law ks k n m a b h (Break_of k' m') b' h' = clash (kind_in ks a) 9 11 (coded ks a Goto h.1) (coded ks a Break h'.1) (λ y. omega (arith, y))
same_goto law ks k n m a b h (Return_of k' e' m') b' h' = clash (kind_in ks a) 9 12 (coded ks a Goto h.1) (coded ks a Return h'.1) (λ y. omega (arith, y))
same_goto law ks k n m a b h (Do_of k' s' w' o' t' c' m') b' h' = clash (kind_in ks a) 9 13 (coded ks a Goto h.1) (coded ks a Do h'.1) (λ y. omega (arith, y))

same_continue : PartsLaw → (ks : Words) → (k m : ℕ) → (a b : ℕ) → HoldsCore ks (Continue_of k m) a b
    → (x : Core) → (b' : ℕ) → HoldsCore ks x a b' → (Continue_of k m ≡ x) × (b ≡ b')
same_continue law ks k m a b h (Block_of o' is' c') b' h' = clash (kind_in ks a) 10 14 (coded ks a Continue h.1) (coded ks a OpenBrace h'.1) (λ y. omega (arith, y))
same_continue law ks k m a b h (Expression_of e' m') b' h' =
    let low : code_of (kind_in ks a) ≤ 8 = expression_code law ks e' m' a b' h' in
    let here : code_of (kind_in ks a) ≡ 10 = coded ks a Continue h.1 in
    absurd (omega arith)
same_continue law ks k m a b h (Goto_of k' n' m') b' h' = clash (kind_in ks a) 10 9 (coded ks a Continue h.1) (coded ks a Goto h'.1) (λ y. omega (arith, y))
same_continue law ks k m a b h (Continue_of k' m') b' h' =
    let p : k ≡ k' = h.0 ∙ sym h'.0 in
    let q : m ≡ m' = h.2 ∙ sym h'.2 in
    (λ i. Continue_of (p i) (q i), h.4 ∙ ap (λ y. y + 1) q ∙ sym h'.4)
same_continue law ks k m a b h (Break_of k' m') b' h' = clash (kind_in ks a) 10 11 (coded ks a Continue h.1) (coded ks a Break h'.1) (λ y. omega (arith, y))
same_continue law ks k m a b h (Return_of k' e' m') b' h' = clash (kind_in ks a) 10 12 (coded ks a Continue h.1) (coded ks a Return h'.1) (λ y. omega (arith, y))
same_continue law ks k m a b h (Do_of k' s' w' o' t' c' m') b' h' = clash (kind_in ks a) 10 13 (coded ks a Continue h.1) (coded ks a Do h'.1) (λ y. omega (arith, y))

same_break : PartsLaw → (ks : Words) → (k m : ℕ) → (a b : ℕ) → HoldsCore ks (Break_of k m) a b
    → (x : Core) → (b' : ℕ) → HoldsCore ks x a b' → (Break_of k m ≡ x) × (b ≡ b')
same_break law ks k m a b h (Block_of o' is' c') b' h' = clash (kind_in ks a) 11 14 (coded ks a Break h.1) (coded ks a OpenBrace h'.1) (λ y. omega (arith, y))
same_break law ks k m a b h (Expression_of e' m') b' h' =
    let low : code_of (kind_in ks a) ≤ 8 = expression_code law ks e' m' a b' h' in
    let here : code_of (kind_in ks a) ≡ 11 = coded ks a Break h.1 in
    absurd (omega arith)
same_break law ks k m a b h (Goto_of k' n' m') b' h' = clash (kind_in ks a) 11 9 (coded ks a Break h.1) (coded ks a Goto h'.1) (λ y. omega (arith, y))
same_break law ks k m a b h (Continue_of k' m') b' h' = clash (kind_in ks a) 11 10 (coded ks a Break h.1) (coded ks a Continue h'.1) (λ y. omega (arith, y))
same_break law ks k m a b h (Break_of k' m') b' h' =
    let p : k ≡ k' = h.0 ∙ sym h'.0 in
    let q : m ≡ m' = h.2 ∙ sym h'.2 in
    (λ i. Break_of (p i) (q i), h.4 ∙ ap (λ y. y + 1) q ∙ sym h'.4)
same_break law ks k m a b h (Return_of k' e' m') b' h' = clash (kind_in ks a) 11 12 (coded ks a Break h.1) (coded ks a Return h'.1) (λ y. omega (arith, y))
same_break law ks k m a b h (Do_of k' s' w' o' t' c' m') b' h' = clash (kind_in ks a) 11 13 (coded ks a Break h.1) (coded ks a Do h'.1) (λ y. omega (arith, y))

same_return : PartsLaw → (ks : Words) → (k : ℕ) → (e : Option Tree) → (m : ℕ) → (a b : ℕ) → HoldsCore ks (Return_of k e m) a b
    → (x : Core) → (b' : ℕ) → HoldsCore ks x a b' → (Return_of k e m ≡ x) × (b ≡ b')
same_return law ks k e m a b h (Block_of o' is' c') b' h' = clash (kind_in ks a) 12 14 (coded ks a Return h.1) (coded ks a OpenBrace h'.1) (λ y. omega (arith, y))
same_return law ks k e m a b h (Expression_of e' m') b' h' =
    let low : code_of (kind_in ks a) ≤ 8 = expression_code law ks e' m' a b' h' in
    let here : code_of (kind_in ks a) ≡ 12 = coded ks a Return h.1 in
    absurd (omega arith)
same_return law ks k e m a b h (Goto_of k' n' m') b' h' = clash (kind_in ks a) 12 9 (coded ks a Return h.1) (coded ks a Goto h'.1) (λ y. omega (arith, y))
same_return law ks k e m a b h (Continue_of k' m') b' h' = clash (kind_in ks a) 12 10 (coded ks a Return h.1) (coded ks a Continue h'.1) (λ y. omega (arith, y))
same_return law ks k e m a b h (Break_of k' m') b' h' = clash (kind_in ks a) 12 11 (coded ks a Return h.1) (coded ks a Break h'.1) (λ y. omega (arith, y))
same_return law ks k e m a b h (Return_of k' e' m') b' h' =
    let p : k ≡ k' = h.0 ∙ sym h'.0 in
    let r = optional_only law ks e (a + 1) m h.2 (ended ks m Semicolon h.3 refl) e' m' h'.2 (ended ks m' Semicolon h'.3 refl) in
    (λ i. Return_of (p i) (r.0 i) (r.1 i), h.4 ∙ ap (λ y. y + 1) r.1 ∙ sym h'.4)
same_return law ks k e m a b h (Do_of k' s' w' o' t' c' m') b' h' = clash (kind_in ks a) 12 13 (coded ks a Return h.1) (coded ks a Do h'.1) (λ y. omega (arith, y))

-- each statement from a on is this one
abbrev pub OnlyStatement : Words → ℕ → Statement → ℕ → Type 0
OnlyStatement ks a s b = (s' : Statement) → (b' : ℕ) → HoldsStatement ks s' a b' → Ends ks s' b' → (s ≡ s') × (b ≡ b')

abbrev pub OnlyCore : Words → ℕ → Core → ℕ → Type 0
OnlyCore ks a c b = (c' : Core) → (b' : ℕ) → HoldsCore ks c' a b' → (c ≡ c') × (b ≡ b')

abbrev pub OnlyItems : Words → ℕ → Items → ℕ → Type 0
OnlyItems ks a is c = (is' : Items) → (c' : ℕ) → HoldItems ks is' a c' → is_close (kind_in ks c') ≡ true → (is ≡ is') × (c ≡ c')

pub closed_ends : (ks : Words) → (s : Statement) → (b : ℕ) → is_closed s ≡ true → Ends ks s b
closed_ends ks s b h f = absurd (true≢false (sym h ∙ f))

pub behind_ends : (ks : Words) → (s : Statement) → (b : ℕ) → (k : Kind) → kind_in ks b ≡ k → is_else k ≡ false → Ends ks s b
behind_ends ks s b k e n f x = no_else_of (kind_in ks b) k e n x

pub close_is : (ks : Words) → (a : ℕ) → kind_in ks a ≡ CloseBrace → is_close (kind_in ks a) ≡ true
close_is ks a e = ap is_close e

same_block : PartsLaw → (ks : Words) → (o : ℕ) → (is : Items) → (c : ℕ) → (a b : ℕ) → HoldsCore ks (Block_of o is c) a b → OnlyItems ks (a + 1) is c
    → (x : Core) → (b' : ℕ) → HoldsCore ks x a b' → (Block_of o is c ≡ x) × (b ≡ b')
same_block law ks o is c a b h w (Block_of o' is' c') b' h' =
    let p : o ≡ o' = h.0 ∙ sym h'.0 in
    let r = w is' c' h'.2 (close_is ks c' h'.3) in
    (λ i. Block_of (p i) (r.0 i) (r.1 i), h.4 ∙ ap (λ y. y + 1) r.1 ∙ sym h'.4)
same_block law ks o is c a b h w (Expression_of e' m') b' h' =
    let low : code_of (kind_in ks a) ≤ 8 = expression_code law ks e' m' a b' h' in
    let here : code_of (kind_in ks a) ≡ 14 = coded ks a OpenBrace h.1 in
    absurd (omega arith)
same_block law ks o is c a b h w (Goto_of k' n' m') b' h' = clash (kind_in ks a) 14 9 (coded ks a OpenBrace h.1) (coded ks a Goto h'.1) (λ y. omega (arith, y))
same_block law ks o is c a b h w (Continue_of k' m') b' h' = clash (kind_in ks a) 14 10 (coded ks a OpenBrace h.1) (coded ks a Continue h'.1) (λ y. omega (arith, y))
same_block law ks o is c a b h w (Break_of k' m') b' h' = clash (kind_in ks a) 14 11 (coded ks a OpenBrace h.1) (coded ks a Break h'.1) (λ y. omega (arith, y))
same_block law ks o is c a b h w (Return_of k' e' m') b' h' = clash (kind_in ks a) 14 12 (coded ks a OpenBrace h.1) (coded ks a Return h'.1) (λ y. omega (arith, y))
same_block law ks o is c a b h w (Do_of k' s' w' o' t' c' m') b' h' = clash (kind_in ks a) 14 13 (coded ks a OpenBrace h.1) (coded ks a Do h'.1) (λ y. omega (arith, y))

same_do : PartsLaw → (ks : Words) → (k : ℕ) → (s : Statement) → (w o : ℕ) → (t : Tree) → (c m : ℕ) → (a b : ℕ) → HoldsCore ks (Do_of k s w o t c m) a b → OnlyStatement ks (a + 1) s w
    → (x : Core) → (b' : ℕ) → HoldsCore ks x a b' → (Do_of k s w o t c m ≡ x) × (b ≡ b')
same_do law ks k s w o t c m a b h v (Block_of o' is' c') b' h' = clash (kind_in ks a) 13 14 (coded ks a Do h.1) (coded ks a OpenBrace h'.1) (λ y. omega (arith, y))
same_do law ks k s w o t c m a b h v (Expression_of e' m') b' h' =
    let low : code_of (kind_in ks a) ≤ 8 = expression_code law ks e' m' a b' h' in
    let here : code_of (kind_in ks a) ≡ 13 = coded ks a Do h.1 in
    absurd (omega arith)
same_do law ks k s w o t c m a b h v (Goto_of k' n' m') b' h' = clash (kind_in ks a) 13 9 (coded ks a Do h.1) (coded ks a Goto h'.1) (λ y. omega (arith, y))
same_do law ks k s w o t c m a b h v (Continue_of k' m') b' h' = clash (kind_in ks a) 13 10 (coded ks a Do h.1) (coded ks a Continue h'.1) (λ y. omega (arith, y))
same_do law ks k s w o t c m a b h v (Break_of k' m') b' h' = clash (kind_in ks a) 13 11 (coded ks a Do h.1) (coded ks a Break h'.1) (λ y. omega (arith, y))
same_do law ks k s w o t c m a b h v (Return_of k' e' m') b' h' = clash (kind_in ks a) 13 12 (coded ks a Do h.1) (coded ks a Return h'.1) (λ y. omega (arith, y))
same_do law ks k s w o t c m a b h v (Do_of k' s' w' o' t' c' m') b' h' =
    let p : k ≡ k' = h.0 ∙ sym h'.0 in
    let r = v s' w' h'.2 (behind_ends ks s' w' While h'.3 refl) in
    let g : HoldsTest ks o' t' c' (w + 1) m' = subst (λ y. HoldsTest ks o' t' c' (y + 1) m') (sym r.1) h'.4 in
    let q = test_only law ks o t c (w + 1) m h.4 o' t' c' m' g in
    (λ i. Do_of (p i) (r.0 i) (r.1 i) (q.0 i) (q.1 i) (q.2 i) (q.3 i), h.6 ∙ ap (λ y. y + 1) q.3 ∙ sym h'.6)

same_label : PartsLaw → (ks : Words) → (n c : ℕ) → (a b : ℕ) → HoldsLead ks (Label_of n c) a b
    → (x : Lead) → (b' : ℕ) → HoldsLead ks x a b' → (Label_of n c ≡ x) × (b ≡ b')
same_label law ks n c a b h (Label_of n' c') b' h' =
    let p : n ≡ n' = h.0 ∙ sym h'.0 in
    let q : c ≡ c' = h.2 ∙ sym h'.2 in
    (λ i. Label_of (p i) (q i), h.4 ∙ ap (λ y. y + 1) q ∙ sym h'.4)
same_label law ks n c a b h (Case_of k' t' c') b' h' =
    clash (kind_in ks a) 1 2 (lead_coded ks (Label_of n c) a b h) (lead_coded ks (Case_of k' t' c') a b' h') (λ y. omega (arith, y))
same_label law ks n c a b h (Default_label_of k' c') b' h' =
    clash (kind_in ks a) 1 3 (lead_coded ks (Label_of n c) a b h) (lead_coded ks (Default_label_of k' c') a b' h') (λ y. omega (arith, y))
same_label law ks n c a b h (If_of k' o' t' c') b' h' =
    clash (kind_in ks a) 1 4 (lead_coded ks (Label_of n c) a b h) (lead_coded ks (If_of k' o' t' c') a b' h') (λ y. omega (arith, y))
same_label law ks n c a b h (If_else_of k' o' t' c' s' e') b' h' =
    clash (kind_in ks a) 1 4 (lead_coded ks (Label_of n c) a b h) (lead_coded ks (If_else_of k' o' t' c' s' e') a b' h') (λ y. omega (arith, y))
same_label law ks n c a b h (Switch_of k' o' t' c') b' h' =
    clash (kind_in ks a) 1 5 (lead_coded ks (Label_of n c) a b h) (lead_coded ks (Switch_of k' o' t' c') a b' h') (λ y. omega (arith, y))
same_label law ks n c a b h (While_of k' o' t' c') b' h' =
    clash (kind_in ks a) 1 6 (lead_coded ks (Label_of n c) a b h) (lead_coded ks (While_of k' o' t' c') a b' h') (λ y. omega (arith, y))
same_label law ks n c a b h (For_of k' o' x' m' y' n' z' c') b' h' =
    clash (kind_in ks a) 1 7 (lead_coded ks (Label_of n c) a b h) (lead_coded ks (For_of k' o' x' m' y' n' z' c') a b' h') (λ y. omega (arith, y))
same_label law ks n c a b h (For_declaring_of k' o' d' y' n' z' c') b' h' =
    clash (kind_in ks a) 1 7 (lead_coded ks (Label_of n c) a b h) (lead_coded ks (For_declaring_of k' o' d' y' n' z' c') a b' h') (λ y. omega (arith, y))

same_case : PartsLaw → (ks : Words) → (k : ℕ) → (t : Tree) → (c : ℕ) → (a b : ℕ) → HoldsLead ks (Case_of k t c) a b
    → (x : Lead) → (b' : ℕ) → HoldsLead ks x a b' → (Case_of k t c ≡ x) × (b ≡ b')
same_case law ks k t c a b h (Label_of n' c') b' h' =
    clash (kind_in ks a) 2 1 (lead_coded ks (Case_of k t c) a b h) (lead_coded ks (Label_of n' c') a b' h') (λ y. omega (arith, y))
same_case law ks k t c a b h (Case_of k' t' c') b' h' =
    let p : k ≡ k' = h.0 ∙ sym h'.0 in
    let r = tree_only law ks 3 t (a + 1) c (omega arith) h.2 (ended ks c Colon h.3 refl) t' c' h'.2 (ended ks c' Colon h'.3 refl) in
    (λ i. Case_of (p i) (r.0 i) (r.1 i), h.4 ∙ ap (λ y. y + 1) r.1 ∙ sym h'.4)
same_case law ks k t c a b h (Default_label_of k' c') b' h' =
    clash (kind_in ks a) 2 3 (lead_coded ks (Case_of k t c) a b h) (lead_coded ks (Default_label_of k' c') a b' h') (λ y. omega (arith, y))
same_case law ks k t c a b h (If_of k' o' t' c') b' h' =
    clash (kind_in ks a) 2 4 (lead_coded ks (Case_of k t c) a b h) (lead_coded ks (If_of k' o' t' c') a b' h') (λ y. omega (arith, y))
same_case law ks k t c a b h (If_else_of k' o' t' c' s' e') b' h' =
    clash (kind_in ks a) 2 4 (lead_coded ks (Case_of k t c) a b h) (lead_coded ks (If_else_of k' o' t' c' s' e') a b' h') (λ y. omega (arith, y))
same_case law ks k t c a b h (Switch_of k' o' t' c') b' h' =
    clash (kind_in ks a) 2 5 (lead_coded ks (Case_of k t c) a b h) (lead_coded ks (Switch_of k' o' t' c') a b' h') (λ y. omega (arith, y))
same_case law ks k t c a b h (While_of k' o' t' c') b' h' =
    clash (kind_in ks a) 2 6 (lead_coded ks (Case_of k t c) a b h) (lead_coded ks (While_of k' o' t' c') a b' h') (λ y. omega (arith, y))
same_case law ks k t c a b h (For_of k' o' x' m' y' n' z' c') b' h' =
    clash (kind_in ks a) 2 7 (lead_coded ks (Case_of k t c) a b h) (lead_coded ks (For_of k' o' x' m' y' n' z' c') a b' h') (λ y. omega (arith, y))
same_case law ks k t c a b h (For_declaring_of k' o' d' y' n' z' c') b' h' =
    clash (kind_in ks a) 2 7 (lead_coded ks (Case_of k t c) a b h) (lead_coded ks (For_declaring_of k' o' d' y' n' z' c') a b' h') (λ y. omega (arith, y))

same_default : PartsLaw → (ks : Words) → (k c : ℕ) → (a b : ℕ) → HoldsLead ks (Default_label_of k c) a b
    → (x : Lead) → (b' : ℕ) → HoldsLead ks x a b' → (Default_label_of k c ≡ x) × (b ≡ b')
same_default law ks k c a b h (Label_of n' c') b' h' =
    clash (kind_in ks a) 3 1 (lead_coded ks (Default_label_of k c) a b h) (lead_coded ks (Label_of n' c') a b' h') (λ y. omega (arith, y))
same_default law ks k c a b h (Case_of k' t' c') b' h' =
    clash (kind_in ks a) 3 2 (lead_coded ks (Default_label_of k c) a b h) (lead_coded ks (Case_of k' t' c') a b' h') (λ y. omega (arith, y))
same_default law ks k c a b h (Default_label_of k' c') b' h' =
    let p : k ≡ k' = h.0 ∙ sym h'.0 in
    let q : c ≡ c' = h.2 ∙ sym h'.2 in
    (λ i. Default_label_of (p i) (q i), h.4 ∙ ap (λ y. y + 1) q ∙ sym h'.4)
same_default law ks k c a b h (If_of k' o' t' c') b' h' =
    clash (kind_in ks a) 3 4 (lead_coded ks (Default_label_of k c) a b h) (lead_coded ks (If_of k' o' t' c') a b' h') (λ y. omega (arith, y))
same_default law ks k c a b h (If_else_of k' o' t' c' s' e') b' h' =
    clash (kind_in ks a) 3 4 (lead_coded ks (Default_label_of k c) a b h) (lead_coded ks (If_else_of k' o' t' c' s' e') a b' h') (λ y. omega (arith, y))
same_default law ks k c a b h (Switch_of k' o' t' c') b' h' =
    clash (kind_in ks a) 3 5 (lead_coded ks (Default_label_of k c) a b h) (lead_coded ks (Switch_of k' o' t' c') a b' h') (λ y. omega (arith, y))
same_default law ks k c a b h (While_of k' o' t' c') b' h' =
    clash (kind_in ks a) 3 6 (lead_coded ks (Default_label_of k c) a b h) (lead_coded ks (While_of k' o' t' c') a b' h') (λ y. omega (arith, y))
same_default law ks k c a b h (For_of k' o' x' m' y' n' z' c') b' h' =
    clash (kind_in ks a) 3 7 (lead_coded ks (Default_label_of k c) a b h) (lead_coded ks (For_of k' o' x' m' y' n' z' c') a b' h') (λ y. omega (arith, y))
same_default law ks k c a b h (For_declaring_of k' o' d' y' n' z' c') b' h' =
    clash (kind_in ks a) 3 7 (lead_coded ks (Default_label_of k c) a b h) (lead_coded ks (For_declaring_of k' o' d' y' n' z' c') a b' h') (λ y. omega (arith, y))

same_switch : PartsLaw → (ks : Words) → (k o : ℕ) → (t : Tree) → (c : ℕ) → (a b : ℕ) → HoldsLead ks (Switch_of k o t c) a b
    → (x : Lead) → (b' : ℕ) → HoldsLead ks x a b' → (Switch_of k o t c ≡ x) × (b ≡ b')
same_switch law ks k o t c a b h (Label_of n' c') b' h' =
    clash (kind_in ks a) 5 1 (lead_coded ks (Switch_of k o t c) a b h) (lead_coded ks (Label_of n' c') a b' h') (λ y. omega (arith, y))
same_switch law ks k o t c a b h (Case_of k' t' c') b' h' =
    clash (kind_in ks a) 5 2 (lead_coded ks (Switch_of k o t c) a b h) (lead_coded ks (Case_of k' t' c') a b' h') (λ y. omega (arith, y))
same_switch law ks k o t c a b h (Default_label_of k' c') b' h' =
    clash (kind_in ks a) 5 3 (lead_coded ks (Switch_of k o t c) a b h) (lead_coded ks (Default_label_of k' c') a b' h') (λ y. omega (arith, y))
same_switch law ks k o t c a b h (If_of k' o' t' c') b' h' =
    clash (kind_in ks a) 5 4 (lead_coded ks (Switch_of k o t c) a b h) (lead_coded ks (If_of k' o' t' c') a b' h') (λ y. omega (arith, y))
same_switch law ks k o t c a b h (If_else_of k' o' t' c' s' e') b' h' =
    clash (kind_in ks a) 5 4 (lead_coded ks (Switch_of k o t c) a b h) (lead_coded ks (If_else_of k' o' t' c' s' e') a b' h') (λ y. omega (arith, y))
same_switch law ks k o t c a b h (Switch_of k' o' t' c') b' h' =
    let p : k ≡ k' = h.0 ∙ sym h'.0 in
    let r = test_only law ks o t c (a + 1) b h.2 o' t' c' b' h'.2 in
    (λ i. Switch_of (p i) (r.0 i) (r.1 i) (r.2 i), r.3)
same_switch law ks k o t c a b h (While_of k' o' t' c') b' h' =
    clash (kind_in ks a) 5 6 (lead_coded ks (Switch_of k o t c) a b h) (lead_coded ks (While_of k' o' t' c') a b' h') (λ y. omega (arith, y))
same_switch law ks k o t c a b h (For_of k' o' x' m' y' n' z' c') b' h' =
    clash (kind_in ks a) 5 7 (lead_coded ks (Switch_of k o t c) a b h) (lead_coded ks (For_of k' o' x' m' y' n' z' c') a b' h') (λ y. omega (arith, y))
same_switch law ks k o t c a b h (For_declaring_of k' o' d' y' n' z' c') b' h' =
    clash (kind_in ks a) 5 7 (lead_coded ks (Switch_of k o t c) a b h) (lead_coded ks (For_declaring_of k' o' d' y' n' z' c') a b' h') (λ y. omega (arith, y))

same_while : PartsLaw → (ks : Words) → (k o : ℕ) → (t : Tree) → (c : ℕ) → (a b : ℕ) → HoldsLead ks (While_of k o t c) a b
    → (x : Lead) → (b' : ℕ) → HoldsLead ks x a b' → (While_of k o t c ≡ x) × (b ≡ b')
same_while law ks k o t c a b h (Label_of n' c') b' h' =
    clash (kind_in ks a) 6 1 (lead_coded ks (While_of k o t c) a b h) (lead_coded ks (Label_of n' c') a b' h') (λ y. omega (arith, y))
same_while law ks k o t c a b h (Case_of k' t' c') b' h' =
    clash (kind_in ks a) 6 2 (lead_coded ks (While_of k o t c) a b h) (lead_coded ks (Case_of k' t' c') a b' h') (λ y. omega (arith, y))
same_while law ks k o t c a b h (Default_label_of k' c') b' h' =
    clash (kind_in ks a) 6 3 (lead_coded ks (While_of k o t c) a b h) (lead_coded ks (Default_label_of k' c') a b' h') (λ y. omega (arith, y))
same_while law ks k o t c a b h (If_of k' o' t' c') b' h' =
    clash (kind_in ks a) 6 4 (lead_coded ks (While_of k o t c) a b h) (lead_coded ks (If_of k' o' t' c') a b' h') (λ y. omega (arith, y))
same_while law ks k o t c a b h (If_else_of k' o' t' c' s' e') b' h' =
    clash (kind_in ks a) 6 4 (lead_coded ks (While_of k o t c) a b h) (lead_coded ks (If_else_of k' o' t' c' s' e') a b' h') (λ y. omega (arith, y))
same_while law ks k o t c a b h (Switch_of k' o' t' c') b' h' =
    clash (kind_in ks a) 6 5 (lead_coded ks (While_of k o t c) a b h) (lead_coded ks (Switch_of k' o' t' c') a b' h') (λ y. omega (arith, y))
same_while law ks k o t c a b h (While_of k' o' t' c') b' h' =
    let p : k ≡ k' = h.0 ∙ sym h'.0 in
    let r = test_only law ks o t c (a + 1) b h.2 o' t' c' b' h'.2 in
    (λ i. While_of (p i) (r.0 i) (r.1 i) (r.2 i), r.3)
same_while law ks k o t c a b h (For_of k' o' x' m' y' n' z' c') b' h' =
    clash (kind_in ks a) 6 7 (lead_coded ks (While_of k o t c) a b h) (lead_coded ks (For_of k' o' x' m' y' n' z' c') a b' h') (λ y. omega (arith, y))
same_while law ks k o t c a b h (For_declaring_of k' o' d' y' n' z' c') b' h' =
    clash (kind_in ks a) 6 7 (lead_coded ks (While_of k o t c) a b h) (lead_coded ks (For_declaring_of k' o' d' y' n' z' c') a b' h') (λ y. omega (arith, y))

same_for : PartsLaw → (ks : Words) → (k o : ℕ) → (x : Option Tree) → (m : ℕ) → (y : Option Tree) → (n : ℕ) → (z : Option Tree) → (c : ℕ) → (a b : ℕ) → HoldsLead ks (For_of k o x m y n z c) a b
    → (l : Lead) → (b' : ℕ) → HoldsLead ks l a b' → (For_of k o x m y n z c ≡ l) × (b ≡ b')
same_for law ks k o x m y n z c a b h (Label_of n' c') b' h' =
    clash (kind_in ks a) 7 1 (lead_coded ks (For_of k o x m y n z c) a b h) (lead_coded ks (Label_of n' c') a b' h') (λ y. omega (arith, y))
same_for law ks k o x m y n z c a b h (Case_of k' t' c') b' h' =
    clash (kind_in ks a) 7 2 (lead_coded ks (For_of k o x m y n z c) a b h) (lead_coded ks (Case_of k' t' c') a b' h') (λ y. omega (arith, y))
same_for law ks k o x m y n z c a b h (Default_label_of k' c') b' h' =
    clash (kind_in ks a) 7 3 (lead_coded ks (For_of k o x m y n z c) a b h) (lead_coded ks (Default_label_of k' c') a b' h') (λ y. omega (arith, y))
same_for law ks k o x m y n z c a b h (If_of k' o' t' c') b' h' =
    clash (kind_in ks a) 7 4 (lead_coded ks (For_of k o x m y n z c) a b h) (lead_coded ks (If_of k' o' t' c') a b' h') (λ y. omega (arith, y))
same_for law ks k o x m y n z c a b h (If_else_of k' o' t' c' s' e') b' h' =
    clash (kind_in ks a) 7 4 (lead_coded ks (For_of k o x m y n z c) a b h) (lead_coded ks (If_else_of k' o' t' c' s' e') a b' h') (λ y. omega (arith, y))
same_for law ks k o x m y n z c a b h (Switch_of k' o' t' c') b' h' =
    clash (kind_in ks a) 7 5 (lead_coded ks (For_of k o x m y n z c) a b h) (lead_coded ks (Switch_of k' o' t' c') a b' h') (λ y. omega (arith, y))
same_for law ks k o x m y n z c a b h (While_of k' o' t' c') b' h' =
    clash (kind_in ks a) 7 6 (lead_coded ks (For_of k o x m y n z c) a b h) (lead_coded ks (While_of k' o' t' c') a b' h') (λ y. omega (arith, y))
same_for law ks k o x m y n z c a b h (For_of k' o' x' m' y' n' z' c') b' h' =
    let p : k ≡ k' = h.0 ∙ sym h'.0 in
    let q : o ≡ o' = h.2 ∙ sym h'.2 in
    let g : HoldsOptional ks x' (o + 1) m' = subst (λ v. HoldsOptional ks x' (v + 1) m') (sym q) h'.4 in
    let r = optional_only law ks x (o + 1) m h.4 (ended ks m Semicolon h.5 refl) x' m' g (ended ks m' Semicolon h'.5 refl) in
    let u : Alike_but_names (past_optional ks x) ks = λ t i v. optional_blind law t i ks x v in
    let g2 : HoldsOptional (past_optional ks x) y' (m + 1) n' =
    subst (λ v. HoldsOptional (past_optional ks v) y' (m + 1) n') (sym r.0) (subst (λ v. HoldsOptional (past_optional ks x') y' (v + 1) n') (sym r.1) h'.6) in
    let g3 : HoldsOptional (past_optional (past_optional ks x) y') z' (n' + 1) c' =
    subst (λ v. HoldsOptional (past_optional (past_optional ks v) y') z' (n' + 1) c') (sym r.0) h'.8 in
    let w = tail_only law ks (past_optional ks x) u y (m + 1) n z c h.6 h.7 h.8 h.9 y' n' z' c' g2 h'.7 g3 h'.9 in
    (λ i. For_of (p i) (q i) (r.0 i) (r.1 i) (w.0 i) (w.1 i) (w.2 i) (w.3 i), h.10 ∙ ap (λ v. v + 1) w.3 ∙ sym h'.10)
same_for law ks k o x m y n z c a b h (For_declaring_of k' o' d' y' n' z' c') b' h' =
    let q : o' ≡ o = h'.3 ∙ sym h.2 in
    absurd (first_apart law ks x (o + 1) m h.4 h.5 d' h'.0 (subst (λ v. HoldsDeclaration ks d' (v + 1) h'.0) q h'.5))

same_declaring : PartsLaw → (ks : Words) → (k o : ℕ) → (d : Heading) → (y : Option Tree) → (n : ℕ) → (z : Option Tree) → (c : ℕ) → (a b : ℕ) → HoldsLead ks (For_declaring_of k o d y n z c) a b
    → (x : Lead) → (b' : ℕ) → HoldsLead ks x a b' → (For_declaring_of k o d y n z c ≡ x) × (b ≡ b')
same_declaring law ks k o d y n z c a b h (Label_of n' c') b' h' =
    clash (kind_in ks a) 7 1 (lead_coded ks (For_declaring_of k o d y n z c) a b h) (lead_coded ks (Label_of n' c') a b' h') (λ y. omega (arith, y))
same_declaring law ks k o d y n z c a b h (Case_of k' t' c') b' h' =
    clash (kind_in ks a) 7 2 (lead_coded ks (For_declaring_of k o d y n z c) a b h) (lead_coded ks (Case_of k' t' c') a b' h') (λ y. omega (arith, y))
same_declaring law ks k o d y n z c a b h (Default_label_of k' c') b' h' =
    clash (kind_in ks a) 7 3 (lead_coded ks (For_declaring_of k o d y n z c) a b h) (lead_coded ks (Default_label_of k' c') a b' h') (λ y. omega (arith, y))
same_declaring law ks k o d y n z c a b h (If_of k' o' t' c') b' h' =
    clash (kind_in ks a) 7 4 (lead_coded ks (For_declaring_of k o d y n z c) a b h) (lead_coded ks (If_of k' o' t' c') a b' h') (λ y. omega (arith, y))
same_declaring law ks k o d y n z c a b h (If_else_of k' o' t' c' s' e') b' h' =
    clash (kind_in ks a) 7 4 (lead_coded ks (For_declaring_of k o d y n z c) a b h) (lead_coded ks (If_else_of k' o' t' c' s' e') a b' h') (λ y. omega (arith, y))
same_declaring law ks k o d y n z c a b h (Switch_of k' o' t' c') b' h' =
    clash (kind_in ks a) 7 5 (lead_coded ks (For_declaring_of k o d y n z c) a b h) (lead_coded ks (Switch_of k' o' t' c') a b' h') (λ y. omega (arith, y))
same_declaring law ks k o d y n z c a b h (While_of k' o' t' c') b' h' =
    clash (kind_in ks a) 7 6 (lead_coded ks (For_declaring_of k o d y n z c) a b h) (lead_coded ks (While_of k' o' t' c') a b' h') (λ y. omega (arith, y))
same_declaring law ks k o d y n z c a b h (For_of k' o' x' m' y' n' z' c') b' h' =
    let q : o ≡ o' = h.3 ∙ sym h'.2 in
    absurd (first_apart law ks x' (o' + 1) m' h'.4 h'.5 d h.0 (subst (λ v. HoldsDeclaration ks d (v + 1) h.0) q h.5))
same_declaring law ks k o d y n z c a b h (For_declaring_of k' o' d' y' n' z' c') b' h' =
    let p : k ≡ k' = h.1 ∙ sym h'.1 in
    let q : o ≡ o' = h.3 ∙ sym h'.3 in
    let r = law.declaration_only ks d d' (o + 1) h.0 h'.0 h.5 (subst (λ v. HoldsDeclaration ks d' (v + 1) h'.0) (sym q) h'.5) in
    let u : Alike_but_names (past_declaration ks d) ks = λ t i v. law.declaration_blind t i ks d v in
    let g2 : HoldsOptional (past_declaration ks d) y' h.0 n' =
    subst (λ v. HoldsOptional (past_declaration ks v) y' h.0 n') (sym r.0) (subst (λ v. HoldsOptional (past_declaration ks d') y' v n') (sym r.1) h'.6) in
    let g3 : HoldsOptional (past_optional (past_declaration ks d) y') z' (n' + 1) c' =
    subst (λ v. HoldsOptional (past_optional (past_declaration ks v) y') z' (n' + 1) c') (sym r.0) h'.8 in
    let w = tail_only law ks (past_declaration ks d) u y h.0 n z c h.6 h.7 h.8 h.9 y' n' z' c' g2 h'.7 g3 h'.9 in
    (λ i. For_declaring_of (p i) (q i) (r.0 i) (w.0 i) (w.1 i) (w.2 i) (w.3 i), h.10 ∙ ap (λ v. v + 1) w.3 ∙ sym h'.10)

-- two leads at one place are the same, or of one `if` the second alone has an `else`
pub data Likewise (ks : Words) (l x : Lead) (b b' : ℕ) : Type 0 where
  alike : l ≡ x → b ≡ b' → Likewise ks l x b b'
  without : (s : Statement) → (e : ℕ) → takes_no_else l ≡ false → HoldsStatement (inside ks l) s b e → is_closed s ≡ true → kind_in ks e ≡ Else
      → Likewise ks l x b b'

both : (ks : Words) → (l x : Lead) → (b b' : ℕ) → (l ≡ x) × (b ≡ b') → Likewise ks l x b b'
both ks l x b b' r = alike r.0 r.1

same_if : PartsLaw → (ks : Words) → (k o : ℕ) → (t : Tree) → (c : ℕ) → (a b : ℕ) → HoldsLead ks (If_of k o t c) a b
    → (x : Lead) → (b' : ℕ) → HoldsLead ks x a b' → Likewise ks (If_of k o t c) x b b'
same_if law ks k o t c a b h (Label_of n' c') b' h' =
    clash (kind_in ks a) 4 1 (lead_coded ks (If_of k o t c) a b h) (lead_coded ks (Label_of n' c') a b' h') (λ y. omega (arith, y))
same_if law ks k o t c a b h (Case_of k' t' c') b' h' =
    clash (kind_in ks a) 4 2 (lead_coded ks (If_of k o t c) a b h) (lead_coded ks (Case_of k' t' c') a b' h') (λ y. omega (arith, y))
same_if law ks k o t c a b h (Default_label_of k' c') b' h' =
    clash (kind_in ks a) 4 3 (lead_coded ks (If_of k o t c) a b h) (lead_coded ks (Default_label_of k' c') a b' h') (λ y. omega (arith, y))
same_if law ks k o t c a b h (If_of k' o' t' c') b' h' =
    let p : k ≡ k' = h.0 ∙ sym h'.0 in
    let r = test_only law ks o t c (a + 1) b h.2 o' t' c' b' h'.2 in
    alike (λ i. If_of (p i) (r.0 i) (r.1 i) (r.2 i)) r.3
same_if law ks k o t c a b h (If_else_of k' o' t' c' s' e') b' h' =
    let r = test_only law ks o t c (a + 1) b h.2 o' t' c' h'.0 h'.3 in
    let g : HoldsStatement (past_tree ks t) s' b e' =
    subst (λ v. HoldsStatement (past_tree ks v) s' b e') (sym r.1) (subst (λ v. HoldsStatement (past_tree ks t') s' v e') (sym r.3) h'.4) in
    without s' e' refl g h'.5 h'.6
same_if law ks k o t c a b h (Switch_of k' o' t' c') b' h' =
    clash (kind_in ks a) 4 5 (lead_coded ks (If_of k o t c) a b h) (lead_coded ks (Switch_of k' o' t' c') a b' h') (λ y. omega (arith, y))
same_if law ks k o t c a b h (While_of k' o' t' c') b' h' =
    clash (kind_in ks a) 4 6 (lead_coded ks (If_of k o t c) a b h) (lead_coded ks (While_of k' o' t' c') a b' h') (λ y. omega (arith, y))
same_if law ks k o t c a b h (For_of k' o' x' m' y' n' z' c') b' h' =
    clash (kind_in ks a) 4 7 (lead_coded ks (If_of k o t c) a b h) (lead_coded ks (For_of k' o' x' m' y' n' z' c') a b' h') (λ y. omega (arith, y))
same_if law ks k o t c a b h (For_declaring_of k' o' d' y' n' z' c') b' h' =
    clash (kind_in ks a) 4 7 (lead_coded ks (If_of k o t c) a b h) (lead_coded ks (For_declaring_of k' o' d' y' n' z' c') a b' h') (λ y. omega (arith, y))

-- what stands behind the second lead
pub record Rest (ks : Words) (x : Lead) (b' : ℕ) : Type 0 where
  pub rest : Statement
  pub end : ℕ
  pub reads : HoldsStatement (inside ks x) rest b' end
  pub no_else : takes_no_else x ≡ false → is_else (kind_in ks end) ≡ true → ⊥

same_if_else : PartsLaw → (ks : Words) → (k o : ℕ) → (t : Tree) → (c : ℕ) → (s : Statement) → (e : ℕ) → (a b : ℕ) → HoldsLead ks (If_else_of k o t c s e) a b → ((m : ℕ) → HoldsStatement (past_tree ks t) s m e → OnlyStatement (past_tree ks t) m s e)
    → (x : Lead) → (b' : ℕ) → HoldsLead ks x a b' → Rest ks x b' → (If_else_of k o t c s e ≡ x) × (b ≡ b')
same_if_else law ks k o t c s e a b h v (Label_of n' c') b' h' w =
    clash (kind_in ks a) 4 1 (lead_coded ks (If_else_of k o t c s e) a b h) (lead_coded ks (Label_of n' c') a b' h') (λ y. omega (arith, y))
same_if_else law ks k o t c s e a b h v (Case_of k' t' c') b' h' w =
    clash (kind_in ks a) 4 2 (lead_coded ks (If_else_of k o t c s e) a b h) (lead_coded ks (Case_of k' t' c') a b' h') (λ y. omega (arith, y))
same_if_else law ks k o t c s e a b h v (Default_label_of k' c') b' h' w =
    clash (kind_in ks a) 4 3 (lead_coded ks (If_else_of k o t c s e) a b h) (lead_coded ks (Default_label_of k' c') a b' h') (λ y. omega (arith, y))
same_if_else law ks k o t c s e a b h v (If_of k' o' t' c') b' h' w =
    let r = test_only law ks o t c (a + 1) h.0 h.3 o' t' c' b' h'.2 in
    let g : HoldsStatement (past_tree ks t) w.rest h.0 w.end =
    subst (λ y. HoldsStatement (past_tree ks y) w.rest h.0 w.end) (sym r.1) (subst (λ y. HoldsStatement (past_tree ks t') w.rest y w.end) (sym r.3) w.reads) in
    let q = v h.0 h.4 w.rest w.end g (λ f y. w.no_else refl (sym (law.tree_blind is_else else_blind ks t w.end) ∙ y)) in
    absurd (w.no_else refl (ap (λ y. is_else (kind_in ks y)) (sym q.1) ∙ ap is_else h.6))
same_if_else law ks k o t c s e a b h v (If_else_of k' o' t' c' s' e') b' h' w =
    let p : k ≡ k' = h.1 ∙ sym h'.1 in
    let r = test_only law ks o t c (a + 1) h.0 h.3 o' t' c' h'.0 h'.3 in
    let g : HoldsStatement (past_tree ks t) s' h.0 e' =
    subst (λ y. HoldsStatement (past_tree ks y) s' h.0 e') (sym r.1) (subst (λ y. HoldsStatement (past_tree ks t') s' y e') (sym r.3) h'.4) in
    let q = v h.0 h.4 s' e' g (closed_ends (past_tree ks t) s' e' h'.5) in
    (λ i. If_else_of (p i) (r.0 i) (r.1 i) (r.2 i) (q.0 i) (q.1 i), h.7 ∙ ap (λ y. y + 1) q.1 ∙ sym h'.7)
same_if_else law ks k o t c s e a b h v (Switch_of k' o' t' c') b' h' w =
    clash (kind_in ks a) 4 5 (lead_coded ks (If_else_of k o t c s e) a b h) (lead_coded ks (Switch_of k' o' t' c') a b' h') (λ y. omega (arith, y))
same_if_else law ks k o t c s e a b h v (While_of k' o' t' c') b' h' w =
    clash (kind_in ks a) 4 6 (lead_coded ks (If_else_of k o t c s e) a b h) (lead_coded ks (While_of k' o' t' c') a b' h') (λ y. omega (arith, y))
same_if_else law ks k o t c s e a b h v (For_of k' o' x' m' y' n' z' c') b' h' w =
    clash (kind_in ks a) 4 7 (lead_coded ks (If_else_of k o t c s e) a b h) (lead_coded ks (For_of k' o' x' m' y' n' z' c') a b' h') (λ y. omega (arith, y))
same_if_else law ks k o t c s e a b h v (For_declaring_of k' o' d' y' n' z' c') b' h' w =
    clash (kind_in ks a) 4 7 (lead_coded ks (If_else_of k o t c s e) a b h) (lead_coded ks (For_declaring_of k' o' d' y' n' z' c') a b' h') (λ y. omega (arith, y))

-- a label is no expression
name_ends : PartsLaw → (ks : Words) → (t : Tree) → (a m : ℕ) → Reads (shown_from ks a) 1 t a m → kind_in ks m ≡ Semicolon
    → is_word (kind_in ks a) ≡ true → kind_in ks (a + 1) ≡ Colon → ⊥
name_ends law ks t a m h e w f =
    let k : kind_in ks a ≡ Identifier = start_word (kind_in ks a) (law.expression_starts ks 1 t a m h) w in
    let name : Reads (shown_from ks a) 1 (Name_of a) a (a + 1) = law.name_reads ks a k in
    let r = tree_only law ks 1 t a m (omega arith) h (ended ks m Semicolon e refl) (Name_of a) (a + 1) name (ended ks (a + 1) Colon f refl) in
    clash (kind_in ks m) 8 0 (coded ks m Semicolon e) (ap (λ x. code_of (kind_in ks x)) r.1 ∙ coded ks (a + 1) Colon f) (λ x. omega (arith, x))

pub core_apart : PartsLaw → (ks : Words) → (c : Core) → (a b : ℕ) → HoldsCore ks c a b → (l : Lead) → (n : ℕ) → HoldsLead ks l a n → ⊥
core_apart law ks (Block_of o is c) a b h l n' h' =
    let here : code_of (kind_in ks a) ≡ 14 = coded ks a OpenBrace h.1 in
    let there : code_of (kind_in ks a) ≡ lead_code l = lead_coded ks l a n' h' in
    let low : lead_code l ≤ 7 = lead_low l in
    omega arith
core_apart law ks (Expression_of None m) a b h l n' h' =
    let here : code_of (kind_in ks a) ≡ 8 = ap (λ x. code_of (kind_in ks x)) (sym h.0) ∙ coded ks m Semicolon h.1 in
    let there : code_of (kind_in ks a) ≡ lead_code l = lead_coded ks l a n' h' in
    let low : lead_code l ≤ 7 = lead_low l in
    omega arith
core_apart law ks (Expression_of (Some t) m) a b h l n' h' =
    let w = labelled ks l a n' h' (start_code (kind_in ks a) (law.expression_starts ks 1 t a m h.0)) in
    name_ends law ks t a m h.0 h.1 w.0 w.1
core_apart law ks (Goto_of k n m) a b h l n' h' =
    let here : code_of (kind_in ks a) ≡ 9 = coded ks a Goto h.1 in
    let there : code_of (kind_in ks a) ≡ lead_code l = lead_coded ks l a n' h' in
    let low : lead_code l ≤ 7 = lead_low l in
    omega arith
core_apart law ks (Continue_of k m) a b h l n' h' =
    let here : code_of (kind_in ks a) ≡ 10 = coded ks a Continue h.1 in
    let there : code_of (kind_in ks a) ≡ lead_code l = lead_coded ks l a n' h' in
    let low : lead_code l ≤ 7 = lead_low l in
    omega arith
core_apart law ks (Break_of k m) a b h l n' h' =
    let here : code_of (kind_in ks a) ≡ 11 = coded ks a Break h.1 in
    let there : code_of (kind_in ks a) ≡ lead_code l = lead_coded ks l a n' h' in
    let low : lead_code l ≤ 7 = lead_low l in
    omega arith
core_apart law ks (Return_of k e m) a b h l n' h' =
    let here : code_of (kind_in ks a) ≡ 12 = coded ks a Return h.1 in
    let there : code_of (kind_in ks a) ≡ lead_code l = lead_coded ks l a n' h' in
    let low : lead_code l ≤ 7 = lead_low l in
    omega arith
core_apart law ks (Do_of k s w o t c m) a b h l n' h' =
    let here : code_of (kind_in ks a) ≡ 13 = coded ks a Do h.1 in
    let there : code_of (kind_in ks a) ≡ lead_code l = lead_coded ks l a n' h' in
    let low : lead_code l ≤ 7 = lead_low l in
    omega arith

-- a declaration is no statement
core_declares_not : PartsLaw → (ks : Words) → (c : Core) → (a b : ℕ) → HoldsCore ks c a b → (d : Heading) → (q : ℕ) → HoldsDeclaration ks d a q → ⊥
core_declares_not law ks (Block_of o is c) a b h d q g =
    let here : code_of (kind_in ks a) ≡ 14 = coded ks a OpenBrace h.1 in
    let low : code_of (kind_in ks a) ≤ 1 = declaring_code (kind_in ks a) (law.declaration_starts ks d a q g) in
    omega arith
core_declares_not law ks (Expression_of e m) a b h d q g = first_apart law ks e a m h.0 h.1 d q g
core_declares_not law ks (Goto_of k n m) a b h d q g =
    let here : code_of (kind_in ks a) ≡ 9 = coded ks a Goto h.1 in
    let low : code_of (kind_in ks a) ≤ 1 = declaring_code (kind_in ks a) (law.declaration_starts ks d a q g) in
    omega arith
core_declares_not law ks (Continue_of k m) a b h d q g =
    let here : code_of (kind_in ks a) ≡ 10 = coded ks a Continue h.1 in
    let low : code_of (kind_in ks a) ≤ 1 = declaring_code (kind_in ks a) (law.declaration_starts ks d a q g) in
    omega arith
core_declares_not law ks (Break_of k m) a b h d q g =
    let here : code_of (kind_in ks a) ≡ 11 = coded ks a Break h.1 in
    let low : code_of (kind_in ks a) ≤ 1 = declaring_code (kind_in ks a) (law.declaration_starts ks d a q g) in
    omega arith
core_declares_not law ks (Return_of k e m) a b h d q g =
    let here : code_of (kind_in ks a) ≡ 12 = coded ks a Return h.1 in
    let low : code_of (kind_in ks a) ≤ 1 = declaring_code (kind_in ks a) (law.declaration_starts ks d a q g) in
    omega arith
core_declares_not law ks (Do_of k s w o t c m) a b h d q g =
    let here : code_of (kind_in ks a) ≡ 13 = coded ks a Do h.1 in
    let low : code_of (kind_in ks a) ≤ 1 = declaring_code (kind_in ks a) (law.declaration_starts ks d a q g) in
    omega arith

declares_not : PartsLaw → (ks : Words) → (s : Statement) → (a b : ℕ) → HoldsStatement ks s a b → (d : Heading) → (q : ℕ) → HoldsDeclaration ks d a q → ⊥
declares_not law ks (Statement_of No_leads c) a b h d q g =
    core_declares_not law ks c h.0 b h.2 d q (subst (λ x. HoldsDeclaration ks d x q) (sym h.1) g)
declares_not law ks (Statement_of (Lead_then l ls) c) a b h d q g =
    let w = labelled ks l a h.1.0 h.1.1 (declaring_code (kind_in ks a) (law.declaration_starts ks d a q g)) in
    law.declaration_unlabelled ks d a q g w.1

-- an item begins neither with `else` nor with `}`
code_begins : (k : Kind) → 2 ≤ code_of k → begins_item k ≡ true
code_begins Else h = absurd (omega (arith, h))
code_begins CloseBrace h = absurd (omega (arith, h))
code_begins _ h = refl

core_begins : PartsLaw → (ks : Words) → (c : Core) → (a b : ℕ) → HoldsCore ks c a b → begins_item (kind_in ks a) ≡ true
core_begins law ks (Block_of o is c) a b h = ap begins_item h.1
core_begins law ks (Expression_of None m) a b h = ap (λ x. begins_item (kind_in ks x)) (sym h.0) ∙ ap begins_item h.1
core_begins law ks (Expression_of (Some t) m) a b h = start_begins (kind_in ks a) (law.expression_starts ks 1 t a m h.0)
core_begins law ks (Goto_of k n m) a b h = ap begins_item h.1
core_begins law ks (Continue_of k m) a b h = ap begins_item h.1
core_begins law ks (Break_of k m) a b h = ap begins_item h.1
core_begins law ks (Return_of k e m) a b h = ap begins_item h.1
core_begins law ks (Do_of k s w o t c m) a b h = ap begins_item h.1

lead_begins : (ks : Words) → (l : Lead) → (a n : ℕ) → HoldsLead ks l a n → begins_item (kind_in ks a) ≡ true
lead_begins ks (Label_of n c) a b h = word_begins (kind_in ks a) h.1
lead_begins ks (Case_of k t c) a b h = ap begins_item h.1
lead_begins ks (Default_label_of k c) a b h = ap begins_item h.1
lead_begins ks (If_of k o t c) a b h = ap begins_item h.1
lead_begins ks (If_else_of k o t c s e) a b h = ap begins_item h.2
lead_begins ks (Switch_of k o t c) a b h = ap begins_item h.1
lead_begins ks (While_of k o t c) a b h = ap begins_item h.1
lead_begins ks (For_of k o x m y n z c) a b h = ap begins_item h.1
lead_begins ks (For_declaring_of k o d y n z c) a b h = ap begins_item h.2

pub item_begins : PartsLaw → (ks : Words) → (x : Item) → (a b : ℕ) → HoldsItem ks x a b → begins_item (kind_in ks a) ≡ true
item_begins law ks (Declared_of d) a b h = declaring_begins (kind_in ks a) (law.declaration_starts ks d a b h)
item_begins law ks (Stated_of (Statement_of No_leads c)) a b h =
    subst (λ x. begins_item (kind_in ks x) ≡ true) h.1 (core_begins law ks c h.0 b h.2)
item_begins law ks (Stated_of (Statement_of (Lead_then l ls) c)) a b h = lead_begins ks l a h.1.0 h.1.1

-- no `else` stands behind an item
pub close_no_else : (ks : Words) → (c m : ℕ) → c ≡ m → is_close (kind_in ks c) ≡ true → is_else (kind_in ks m) ≡ false
close_no_else ks c m e h = close_else_not (kind_in ks m) (ap (λ x. is_close (kind_in ks x)) (sym e) ∙ h)

pub behind_item : PartsLaw → (ks : Words) → (x : Item) → (is : Items) → (m c : ℕ) → HoldItems (past_item ks x) is m c → is_close (kind_in ks c) ≡ true
    → is_else (kind_in ks m) ≡ false
behind_item law ks x No_items m c h e = close_no_else ks c m h e
behind_item law ks x (Item_then i is) m c h e =
    begun_no_else (kind_in ks m) (sym (item_blind law begins_item begins_blind ks x m) ∙ item_begins law (past_item ks x) i m h.0 h.1)

no_item : PartsLaw → (ks : Words) → (x : Item) → (a b m : ℕ) → HoldsItem ks x a b → m ≡ a → is_close (kind_in ks m) ≡ true → ⊥
no_item law ks x a b m h e f =
    true≢false
    (sym (item_begins law ks x a b h) ∙ close_begins_not (kind_in ks a) (ap (λ y. is_close (kind_in ks y)) (sym e) ∙ f))

pub item_ends : (ks : Words) → (x : Item) → (b : ℕ) → is_else (kind_in ks b) ≡ false → EndsItem ks x b
item_ends ks (Declared_of d) b n = tt
item_ends ks (Stated_of s) b n = λ f h. absurd (true≢false (sym h ∙ n))

-- a lead that takes an `else` makes the statement open, and one that takes none leaves it as it was
pub no_else_first : (l : Lead) → (ls : Leads) → takes_no_else l ≡ false → (takes_no_else l && take_no_else ls) ≡ false
no_else_first l ls f = ap (λ b. b && take_no_else ls) f

rest_open : (b c : Bool) → c ≡ false → (b && c) ≡ false
rest_open true c h = h
rest_open false c h = refl

pub ends_inside : PartsLaw → (ks : Words) → (l : Lead) → (ls : Leads) → (c : Core) → (b : ℕ) → Ends ks (Statement_of (Lead_then l ls) c) b
    → Ends (inside ks l) (Statement_of ls c) b
ends_inside law ks l ls c b e f x =
    e (rest_open (takes_no_else l) (take_no_else ls) f) (sym (inside_blind law is_else else_blind ks l b) ∙ x)

abbrev first_put : Lead → Statement → Statement
first_put l (Statement_of ls c) = Statement_of (Lead_then l ls) c

put_before : (l l' : Lead) → (s s' : Statement) → l ≡ l' → s ≡ s' → first_put l s ≡ first_put l' s'
put_before l l' s s' p q = λ i. first_put (p i) (q i)

-- where the first leads are alike, and what stands behind the first of these is the only statement there
led_further : PartsLaw → (l : Lead) → (ls : Leads) → (c : Core) → (ks : Words) → (n b : ℕ) → Ends ks (Statement_of (Lead_then l ls) c) b
    → (l' : Lead) → (ls' : Leads) → (c' : Core) → (n' m' b' : ℕ) → HoldLeads (inside ks l') ls' n' m' → HoldsCore (all_inside (inside ks l') ls') c' m' b'
    → Ends ks (Statement_of (Lead_then l' ls') c') b' → OnlyStatement (inside ks l) n (Statement_of ls c) b → Likewise ks l l' n n'
    → (Statement_of (Lead_then l ls) c ≡ Statement_of (Lead_then l' ls') c') × (b ≡ b')
led_further law l ls c ks n b e l' ls' c' n' m' b' hs' g' e' only (alike p q) =
    let hs2 : HoldLeads (inside ks l) ls' n m' =
    subst (λ x. HoldLeads (inside ks x) ls' n m') (sym p) (subst (λ x. HoldLeads (inside ks l') ls' x m') (sym q) hs') in
    let g2 : HoldsCore (all_inside (inside ks l) ls') c' m' b' = subst (λ x. HoldsCore (all_inside (inside ks x) ls') c' m' b') (sym p) g' in
    let r =
    only (Statement_of ls' c') b' (m', hs2, g2)
    (ends_inside law ks l ls' c' b' (subst (λ x. Ends ks (Statement_of (Lead_then x ls') c') b') (sym p) e')) in
    (put_before l l' (Statement_of ls c) (Statement_of ls' c') p r.0, r.1)
led_further law l ls c ks n b e l' ls' c' n' m' b' hs' g' e' only (without s k t hold closed els) =
    let r = only s k hold (closed_ends (inside ks l) s k closed) in
    absurd (e (no_else_first l ls t) (ap (λ x. is_else (kind_in ks x)) r.1 ∙ ap is_else els))

-- the whole family
abbrev CoreIsOnly : Core → Type 0
CoreIsOnly c = (ks : Words) → (a b : ℕ) → HoldsCore ks c a b → OnlyCore ks a c b

mutual
  pub statement_only : PartsLaw → (s : Statement) → (ks : Words) → (a b : ℕ) → HoldsStatement ks s a b → Ends ks s b → OnlyStatement ks a s b
  statement_only law (Statement_of ls c) ks a b h e = led_only law ls c (core_only law c) ks a h.0 b h.1 h.2 e

  -- by the leads, for all cores of which no two stand from one place on
  led_only : PartsLaw → (ls : Leads) → (c : Core) → CoreIsOnly c → (ks : Words) → (a m b : ℕ) → HoldLeads ks ls a m → HoldsCore (all_inside ks ls) c m b
      → Ends ks (Statement_of ls c) b → OnlyStatement ks a (Statement_of ls c) b
  led_only law No_leads c w ks a m b h g e (Statement_of No_leads c') b' h' e' =
      let g' : HoldsCore ks c a b = subst (λ x. HoldsCore ks c x b) h g in
      let r = w ks a b g' c' b' (subst (λ x. HoldsCore ks c' x b') h'.1 h'.2) in
      (ap (λ x. Statement_of No_leads x) r.0, r.1)
  led_only law No_leads c w ks a m b h g e (Statement_of (Lead_then l' ls') c') b' h' e' =
      absurd (core_apart law ks c a b (subst (λ x. HoldsCore ks c x b) h g) l' h'.1.0 h'.1.1)
  led_only law (Lead_then l ls) c w ks a m b h g e (Statement_of No_leads c') b' h' e' =
      absurd (core_apart law ks c' a b' (subst (λ x. HoldsCore ks c' x b') h'.1 h'.2) l h.0 h.1)
  led_only law (Lead_then l ls) c w ks a m b h g e (Statement_of (Lead_then l' ls') c') b' h' e' =
      let behind : Rest ks l' h'.1.0 = record {
        rest = Statement_of ls' c';
        end = b';
        reads = (h'.0, h'.1.2, h'.2);
        no_else = λ f. e' (no_else_first l' ls' f);
      } in
      led_further law l ls c ks h.0 b e l' ls' c' h'.1.0 h'.0 b' h'.1.2 h'.2 e'
      (led_only law ls c w (inside ks l) h.0 m b h.2 g (ends_inside law ks l ls c b e))
      (lead_only law l ks a h.0 h.1 l' h'.1.0 h'.1.1 behind)

  pub lead_only : PartsLaw → (l : Lead) → (ks : Words) → (a n : ℕ) → HoldsLead ks l a n → (l' : Lead) → (n' : ℕ) → HoldsLead ks l' a n' → Rest ks l' n'
      → Likewise ks l l' n n'
  lead_only law (Label_of x c) ks a n h l' n' h' r = both ks (Label_of x c) l' n n' (same_label law ks x c a n h l' n' h')
  lead_only law (Case_of k t c) ks a n h l' n' h' r = both ks (Case_of k t c) l' n n' (same_case law ks k t c a n h l' n' h')
  lead_only law (Default_label_of k c) ks a n h l' n' h' r = both ks (Default_label_of k c) l' n n' (same_default law ks k c a n h l' n' h')
  lead_only law (If_of k o t c) ks a n h l' n' h' r = same_if law ks k o t c a n h l' n' h'
  lead_only law (If_else_of k o t c s e) ks a n h l' n' h' r =
      both ks (If_else_of k o t c s e) l' n n'
      (same_if_else law ks k o t c s e a n h
      (λ m g. statement_only law s (past_tree ks t) m e g (closed_ends (past_tree ks t) s e h.5)) l' n' h' r)
  lead_only law (Switch_of k o t c) ks a n h l' n' h' r = both ks (Switch_of k o t c) l' n n' (same_switch law ks k o t c a n h l' n' h')
  lead_only law (While_of k o t c) ks a n h l' n' h' r = both ks (While_of k o t c) l' n n' (same_while law ks k o t c a n h l' n' h')
  lead_only law (For_of k o x m y p z c) ks a n h l' n' h' r =
      both ks (For_of k o x m y p z c) l' n n' (same_for law ks k o x m y p z c a n h l' n' h')
  lead_only law (For_declaring_of k o d y p z c) ks a n h l' n' h' r =
      both ks (For_declaring_of k o d y p z c) l' n n' (same_declaring law ks k o d y p z c a n h l' n' h')

  pub core_only : PartsLaw → (c : Core) → (ks : Words) → (a b : ℕ) → HoldsCore ks c a b → OnlyCore ks a c b
  core_only law (Block_of o is c) ks a b h = same_block law ks o is c a b h (items_only law is ks (a + 1) c h.2 (close_is ks c h.3))
  core_only law (Expression_of e m) ks a b h = same_expression law ks e m a b h
  core_only law (Goto_of k n m) ks a b h = same_goto law ks k n m a b h
  core_only law (Continue_of k m) ks a b h = same_continue law ks k m a b h
  core_only law (Break_of k m) ks a b h = same_break law ks k m a b h
  core_only law (Return_of k e m) ks a b h = same_return law ks k e m a b h
  core_only law (Do_of k s w o t c m) ks a b h =
      same_do law ks k s w o t c m a b h (statement_only law s ks (a + 1) w h.2 (behind_ends ks s w While h.3 refl))

  pub items_only : PartsLaw → (is : Items) → (ks : Words) → (a c : ℕ) → HoldItems ks is a c → is_close (kind_in ks c) ≡ true → OnlyItems ks a is c
  items_only law No_items ks a c h e No_items c' h' e' = (refl, h ∙ sym h')
  items_only law No_items ks a c h e (Item_then x' is') c' h' e' = absurd (no_item law ks x' a h'.0 c h'.1 h e)
  items_only law (Item_then x is) ks a c h e No_items c' h' e' = absurd (no_item law ks x a h.0 c' h.1 h' e')
  items_only law (Item_then x is) ks a c h e (Item_then x' is') c' h' e' =
      let r =
      item_only law x ks a h.0 h.1 (item_ends ks x h.0 (behind_item law ks x is h.0 c h.2 e)) x' h'.0 h'.1
      (item_ends ks x' h'.0 (behind_item law ks x' is' h'.0 c' h'.2 e')) in
      let h2 : HoldItems (past_item ks x) is' h.0 c' =
      subst (λ y. HoldItems (past_item ks y) is' h.0 c') (sym r.0) (subst (λ y. HoldItems (past_item ks x') is' y c') (sym r.1) h'.2) in
      let q =
      items_only law is (past_item ks x) h.0 c h.2 (item_blind law is_close close_blind ks x c ∙ e) is' c' h2
      (item_blind law is_close close_blind ks x c' ∙ e') in
      (λ i. Item_then (r.0 i) (q.0 i), q.1)

  pub item_only : PartsLaw → (x : Item) → (ks : Words) → (a b : ℕ) → HoldsItem ks x a b → EndsItem ks x b
      → (x' : Item) → (b' : ℕ) → HoldsItem ks x' a b' → EndsItem ks x' b' → (x ≡ x') × (b ≡ b')
  item_only law (Declared_of d) ks a b h e (Declared_of d') b' h' e' =
      let r = law.declaration_only ks d d' a b b' h h' in
      (ap (λ y. Declared_of y) r.0, r.1)
  item_only law (Declared_of d) ks a b h e (Stated_of s') b' h' e' = absurd (declares_not law ks s' a b' h' d b h)
  item_only law (Stated_of s) ks a b h e (Declared_of d') b' h' e' = absurd (declares_not law ks s a b h d' b' h')
  item_only law (Stated_of s) ks a b h e (Stated_of s') b' h' e' =
      let r = statement_only law s ks a b h e s' b' h' e' in
      (ap (λ y. Stated_of y) r.0, r.1)

-- What stands at a place, by the kind of its first token.
use Rattle.std.proofs.Common.{◌≡◌, refl, ap, sym, ◌∙◌, subst, ℕ, ◌+◌, ◌≤◌, arith, ◌⊎◌, inl, inr, ◌&&◌, not, Bool, true, false, true≢false, Option, None, Some}
use Rattle.tree_data.specs.Statements.{Statement, Statement_of, Core, Block_of, Expression_of, Goto_of, Continue_of, Break_of, Return_of, Do_of, Lead, Label_of, Case_of, Default_label_of, If_of, If_else_of, Switch_of, While_of, For_of, For_declaring_of, Leads, No_leads, Lead_then, Items}
use Rattle.tree_data.specs.Trees.{Tree, Heading}
use Rattle.c_parser.specs.declared.kinds.Kind.{Kind}
use Rattle.c_parser.specs.declared.kinds.Kind.TheVariants.{Identifier, TypeName, Colon, OpenBrace, Semicolon, If, Switch, Case, Default, While, Do, For, Goto, Continue, Break, Return}
use Rattle.c_parser.specs.Kinds.{is_word}
use Rattle.c_parser.specs.Parts.{PartsLaw, starts_declaration}
use Rattle.c_parser.specs.Words.{Words, kind_in}
use Rattle.stmt_parser.specs.Fronts.{is_colon, labels_at, is_marked, declares_at}
use Rattle.stmt_parser.specs.InForce.{inside, all_inside}
use Rattle.stmt_parser.specs.Reading.{HoldsStatement, HoldsCore, HoldsLead, HoldLeads}
use Rattle.stmt_parser.proofs.Marks.{code_of, clash, coded, start_code}
use Rattle.stmt_parser.proofs.OneReading.{lead_code, lead_coded, lead_low, labelled, expression_code}

pub and_both : (b c : Bool) → (b && c) ≡ true → (b ≡ true) × (c ≡ true)
and_both true c h = (refl, h)
and_both false c h = absurd (true≢false (sym h))

colon_is : (k : Kind) → is_colon k ≡ true → k ≡ Colon
colon_is Colon h = refl
colon_is _ h = absurd (true≢false (sym h))

pub labels_parts : (w : Words) → (a : ℕ) → labels_at w a ≡ true → (is_word (kind_in w a) ≡ true) × (kind_in w (a + 1) ≡ Colon)
unfolding labels_at
labels_parts w a h =
    let both = and_both (is_word (kind_in w a)) (is_colon (kind_in w (a + 1))) h in
    (both.0, colon_is (kind_in w (a + 1)) both.1)

pub labels_there : (w : Words) → (a : ℕ) → is_word (kind_in w a) ≡ true → kind_in w (a + 1) ≡ Colon → labels_at w a ≡ true
unfolding labels_at
labels_there w a h e = λ i. h i && is_colon (e i)

not_true : (b : Bool) → not b ≡ true → b ≡ false
not_true false h = refl
not_true true h = absurd (true≢false (sym h))

pub declares_parts : (w : Words) → (a : ℕ) → declares_at w a ≡ true → (starts_declaration (kind_in w a) ≡ true) × (labels_at w a ≡ false)
unfolding declares_at
declares_parts w a h =
    let both = and_both (starts_declaration (kind_in w a)) (not (labels_at w a)) h in
    (both.0, not_true (labels_at w a) both.1)

unlabelled : (w : Words) → (a : ℕ) → (kind_in w (a + 1) ≡ Colon → ⊥) → labels_at w a ≡ false
unlabelled w a lack = by (labels_at w a) refl
  where
    by : (b : Bool) → labels_at w a ≡ b → labels_at w a ≡ false
    by true e = absurd (lack (labels_parts w a e).1)
    by false e = e

pub declares_not_parts : (w : Words) → (a : ℕ) → declares_at w a ≡ false → starts_declaration (kind_in w a) ≡ true
    → (kind_in w (a + 1) ≡ Colon → ⊥) → ⊥
unfolding declares_at
declares_not_parts w a h st lack =
    let low : labels_at w a ≡ false = unlabelled w a lack in
    true≢false (sym (λ i. st i && not (low i)) ∙ h)

-- a kind that no statement but an expression begins with
pub unmarked_code : (k : Kind) → is_marked k ≡ false → (code_of k ≤ 1) ⊎ (code_of k ≡ 8)
unmarked_code Identifier h = inl (omega arith)
unmarked_code (TypeName n) h = inl (omega arith)
unmarked_code Semicolon h = inr refl
unmarked_code Case h = absurd (true≢false h)
unmarked_code Default h = absurd (true≢false h)
unmarked_code If h = absurd (true≢false h)
unmarked_code Switch h = absurd (true≢false h)
unmarked_code While h = absurd (true≢false h)
unmarked_code For h = absurd (true≢false h)
unmarked_code Do h = absurd (true≢false h)
unmarked_code OpenBrace h = absurd (true≢false h)
unmarked_code Goto h = absurd (true≢false h)
unmarked_code Continue h = absurd (true≢false h)
unmarked_code Break h = absurd (true≢false h)
unmarked_code Return h = absurd (true≢false h)
unmarked_code _ h = inl (omega arith)

-- no core stands at the kind of a lead
pub core_code : PartsLaw → (w : Words) → (c : Core) → (a b : ℕ) → HoldsCore w c a b → 2 ≤ code_of (kind_in w a) → 8 ≤ code_of (kind_in w a)
core_code law w (Block_of o is c) a b h le =
    let here : code_of (kind_in w a) ≡ 14 = coded w a OpenBrace h.1 in
    omega arith
core_code law w (Expression_of None m) a b h le =
    let here : code_of (kind_in w a) ≡ 8 = ap (λ x. code_of (kind_in w x)) (sym h.0) ∙ coded w m Semicolon h.1 in
    omega arith
core_code law w (Expression_of (Some t) m) a b h le =
    let low : code_of (kind_in w a) ≤ 1 = start_code (kind_in w a) (law.expression_starts w 1 t a m h.0) in
    absurd (omega arith)
core_code law w (Goto_of k n m) a b h le =
    let here : code_of (kind_in w a) ≡ 9 = coded w a Goto h.1 in
    omega arith
core_code law w (Continue_of k m) a b h le =
    let here : code_of (kind_in w a) ≡ 10 = coded w a Continue h.1 in
    omega arith
core_code law w (Break_of k m) a b h le =
    let here : code_of (kind_in w a) ≡ 11 = coded w a Break h.1 in
    omega arith
core_code law w (Return_of k e m) a b h le =
    let here : code_of (kind_in w a) ≡ 12 = coded w a Return h.1 in
    omega arith
core_code law w (Do_of k s v o t c m) a b h le =
    let here : code_of (kind_in w a) ≡ 13 = coded w a Do h.1 in
    omega arith

-- a statement with a lead at its front
pub first_lead : {P : Type 0} → PartsLaw → (w : Words) → (a : ℕ) → 2 ≤ code_of (kind_in w a) → code_of (kind_in w a) ≤ 7
    → ((l : Lead) → (ls : Leads) → (c : Core) → (n m b : ℕ) → HoldsLead w l a n → HoldLeads (inside w l) ls n m
    → HoldsCore (all_inside (inside w l) ls) c m b → P) → (s : Statement) → (b : ℕ) → HoldsStatement w s a b → P
first_lead law w a low high f (Statement_of No_leads c) b h =
    let g : HoldsCore w c a b = subst (λ x. HoldsCore w c x b) h.1 h.2 in
    let more : 8 ≤ code_of (kind_in w a) = core_code law w c a b g low in
    absurd (omega arith)
first_lead law w a low high f (Statement_of (Lead_then l ls) c) b h = f l ls c h.1.0 h.0 b h.1.1 h.1.2 h.2

-- a statement with none
pub bare_core : {P : Type 0} → (w : Words) → (a : ℕ) → 8 ≤ code_of (kind_in w a)
    → ((c : Core) → (b : ℕ) → HoldsCore w c a b → P) → (s : Statement) → (b : ℕ) → HoldsStatement w s a b → P
bare_core w a high f (Statement_of No_leads c) b h = f c b (subst (λ x. HoldsCore w c x b) h.1 h.2)
bare_core w a high f (Statement_of (Lead_then l ls) c) b h =
    let here : code_of (kind_in w a) ≡ lead_code l = lead_coded w l a h.1.0 h.1.1 in
    let low : lead_code l ≤ 7 = lead_low l in
    absurd (omega arith)

pub case_lead : {P : Type 0} → (w : Words) → (a : ℕ) → kind_in w a ≡ Case
    → ((k : ℕ) → (t : Tree) → (c : ℕ) → (b : ℕ) → HoldsLead w (Case_of k t c) a b → P)
    → (l : Lead) → (b : ℕ) → HoldsLead w l a b → P
case_lead w a e f (Label_of n' c') b h = clash (kind_in w a) 2 1 (coded w a Case e) (lead_coded w (Label_of n' c') a b h) (λ y. omega (arith, y))
case_lead w a e f (Case_of k' t' c') b h = f k' t' c' b h
case_lead w a e f (Default_label_of k' c') b h = clash (kind_in w a) 2 3 (coded w a Case e) (lead_coded w (Default_label_of k' c') a b h) (λ y. omega (arith, y))
case_lead w a e f (If_of k' o' t' c') b h = clash (kind_in w a) 2 4 (coded w a Case e) (lead_coded w (If_of k' o' t' c') a b h) (λ y. omega (arith, y))
case_lead w a e f (If_else_of k' o' t' c' s' e') b h = clash (kind_in w a) 2 4 (coded w a Case e) (lead_coded w (If_else_of k' o' t' c' s' e') a b h) (λ y. omega (arith, y))
case_lead w a e f (Switch_of k' o' t' c') b h = clash (kind_in w a) 2 5 (coded w a Case e) (lead_coded w (Switch_of k' o' t' c') a b h) (λ y. omega (arith, y))
case_lead w a e f (While_of k' o' t' c') b h = clash (kind_in w a) 2 6 (coded w a Case e) (lead_coded w (While_of k' o' t' c') a b h) (λ y. omega (arith, y))
case_lead w a e f (For_of k' o' x' m' y' n' z' c') b h = clash (kind_in w a) 2 7 (coded w a Case e) (lead_coded w (For_of k' o' x' m' y' n' z' c') a b h) (λ y. omega (arith, y))
case_lead w a e f (For_declaring_of k' o' d' y' n' z' c') b h = clash (kind_in w a) 2 7 (coded w a Case e) (lead_coded w (For_declaring_of k' o' d' y' n' z' c') a b h) (λ y. omega (arith, y))

pub default_lead : {P : Type 0} → (w : Words) → (a : ℕ) → kind_in w a ≡ Default
    → ((k c : ℕ) → (b : ℕ) → HoldsLead w (Default_label_of k c) a b → P)
    → (l : Lead) → (b : ℕ) → HoldsLead w l a b → P
default_lead w a e f (Label_of n' c') b h = clash (kind_in w a) 3 1 (coded w a Default e) (lead_coded w (Label_of n' c') a b h) (λ y. omega (arith, y))
default_lead w a e f (Case_of k' t' c') b h = clash (kind_in w a) 3 2 (coded w a Default e) (lead_coded w (Case_of k' t' c') a b h) (λ y. omega (arith, y))
default_lead w a e f (Default_label_of k' c') b h = f k' c' b h
default_lead w a e f (If_of k' o' t' c') b h = clash (kind_in w a) 3 4 (coded w a Default e) (lead_coded w (If_of k' o' t' c') a b h) (λ y. omega (arith, y))
default_lead w a e f (If_else_of k' o' t' c' s' e') b h = clash (kind_in w a) 3 4 (coded w a Default e) (lead_coded w (If_else_of k' o' t' c' s' e') a b h) (λ y. omega (arith, y))
default_lead w a e f (Switch_of k' o' t' c') b h = clash (kind_in w a) 3 5 (coded w a Default e) (lead_coded w (Switch_of k' o' t' c') a b h) (λ y. omega (arith, y))
default_lead w a e f (While_of k' o' t' c') b h = clash (kind_in w a) 3 6 (coded w a Default e) (lead_coded w (While_of k' o' t' c') a b h) (λ y. omega (arith, y))
default_lead w a e f (For_of k' o' x' m' y' n' z' c') b h = clash (kind_in w a) 3 7 (coded w a Default e) (lead_coded w (For_of k' o' x' m' y' n' z' c') a b h) (λ y. omega (arith, y))
default_lead w a e f (For_declaring_of k' o' d' y' n' z' c') b h = clash (kind_in w a) 3 7 (coded w a Default e) (lead_coded w (For_declaring_of k' o' d' y' n' z' c') a b h) (λ y. omega (arith, y))

pub if_lead : {P : Type 0} → (w : Words) → (a : ℕ) → kind_in w a ≡ If
    → ((k o : ℕ) → (t : Tree) → (c : ℕ) → (b : ℕ) → HoldsLead w (If_of k o t c) a b → P)
    → ((k o : ℕ) → (t : Tree) → (c : ℕ) → (s : Statement) → (e : ℕ) → (b : ℕ) → HoldsLead w (If_else_of k o t c s e) a b → P)
    → (l : Lead) → (b : ℕ) → HoldsLead w l a b → P
if_lead w a e f g (Label_of n' c') b h = clash (kind_in w a) 4 1 (coded w a If e) (lead_coded w (Label_of n' c') a b h) (λ y. omega (arith, y))
if_lead w a e f g (Case_of k' t' c') b h = clash (kind_in w a) 4 2 (coded w a If e) (lead_coded w (Case_of k' t' c') a b h) (λ y. omega (arith, y))
if_lead w a e f g (Default_label_of k' c') b h = clash (kind_in w a) 4 3 (coded w a If e) (lead_coded w (Default_label_of k' c') a b h) (λ y. omega (arith, y))
if_lead w a e f g (If_of k' o' t' c') b h = f k' o' t' c' b h
if_lead w a e f g (If_else_of k' o' t' c' s' e') b h = g k' o' t' c' s' e' b h
if_lead w a e f g (Switch_of k' o' t' c') b h = clash (kind_in w a) 4 5 (coded w a If e) (lead_coded w (Switch_of k' o' t' c') a b h) (λ y. omega (arith, y))
if_lead w a e f g (While_of k' o' t' c') b h = clash (kind_in w a) 4 6 (coded w a If e) (lead_coded w (While_of k' o' t' c') a b h) (λ y. omega (arith, y))
if_lead w a e f g (For_of k' o' x' m' y' n' z' c') b h = clash (kind_in w a) 4 7 (coded w a If e) (lead_coded w (For_of k' o' x' m' y' n' z' c') a b h) (λ y. omega (arith, y))
if_lead w a e f g (For_declaring_of k' o' d' y' n' z' c') b h = clash (kind_in w a) 4 7 (coded w a If e) (lead_coded w (For_declaring_of k' o' d' y' n' z' c') a b h) (λ y. omega (arith, y))

pub switch_lead : {P : Type 0} → (w : Words) → (a : ℕ) → kind_in w a ≡ Switch
    → ((k o : ℕ) → (t : Tree) → (c : ℕ) → (b : ℕ) → HoldsLead w (Switch_of k o t c) a b → P)
    → (l : Lead) → (b : ℕ) → HoldsLead w l a b → P
switch_lead w a e f (Label_of n' c') b h = clash (kind_in w a) 5 1 (coded w a Switch e) (lead_coded w (Label_of n' c') a b h) (λ y. omega (arith, y))
switch_lead w a e f (Case_of k' t' c') b h = clash (kind_in w a) 5 2 (coded w a Switch e) (lead_coded w (Case_of k' t' c') a b h) (λ y. omega (arith, y))
switch_lead w a e f (Default_label_of k' c') b h = clash (kind_in w a) 5 3 (coded w a Switch e) (lead_coded w (Default_label_of k' c') a b h) (λ y. omega (arith, y))
switch_lead w a e f (If_of k' o' t' c') b h = clash (kind_in w a) 5 4 (coded w a Switch e) (lead_coded w (If_of k' o' t' c') a b h) (λ y. omega (arith, y))
switch_lead w a e f (If_else_of k' o' t' c' s' e') b h = clash (kind_in w a) 5 4 (coded w a Switch e) (lead_coded w (If_else_of k' o' t' c' s' e') a b h) (λ y. omega (arith, y))
switch_lead w a e f (Switch_of k' o' t' c') b h = f k' o' t' c' b h
switch_lead w a e f (While_of k' o' t' c') b h = clash (kind_in w a) 5 6 (coded w a Switch e) (lead_coded w (While_of k' o' t' c') a b h) (λ y. omega (arith, y))
switch_lead w a e f (For_of k' o' x' m' y' n' z' c') b h = clash (kind_in w a) 5 7 (coded w a Switch e) (lead_coded w (For_of k' o' x' m' y' n' z' c') a b h) (λ y. omega (arith, y))
switch_lead w a e f (For_declaring_of k' o' d' y' n' z' c') b h = clash (kind_in w a) 5 7 (coded w a Switch e) (lead_coded w (For_declaring_of k' o' d' y' n' z' c') a b h) (λ y. omega (arith, y))

pub while_lead : {P : Type 0} → (w : Words) → (a : ℕ) → kind_in w a ≡ While
    → ((k o : ℕ) → (t : Tree) → (c : ℕ) → (b : ℕ) → HoldsLead w (While_of k o t c) a b → P)
    → (l : Lead) → (b : ℕ) → HoldsLead w l a b → P
while_lead w a e f (Label_of n' c') b h = clash (kind_in w a) 6 1 (coded w a While e) (lead_coded w (Label_of n' c') a b h) (λ y. omega (arith, y))
while_lead w a e f (Case_of k' t' c') b h = clash (kind_in w a) 6 2 (coded w a While e) (lead_coded w (Case_of k' t' c') a b h) (λ y. omega (arith, y))
while_lead w a e f (Default_label_of k' c') b h = clash (kind_in w a) 6 3 (coded w a While e) (lead_coded w (Default_label_of k' c') a b h) (λ y. omega (arith, y))
while_lead w a e f (If_of k' o' t' c') b h = clash (kind_in w a) 6 4 (coded w a While e) (lead_coded w (If_of k' o' t' c') a b h) (λ y. omega (arith, y))
while_lead w a e f (If_else_of k' o' t' c' s' e') b h = clash (kind_in w a) 6 4 (coded w a While e) (lead_coded w (If_else_of k' o' t' c' s' e') a b h) (λ y. omega (arith, y))
while_lead w a e f (Switch_of k' o' t' c') b h = clash (kind_in w a) 6 5 (coded w a While e) (lead_coded w (Switch_of k' o' t' c') a b h) (λ y. omega (arith, y))
while_lead w a e f (While_of k' o' t' c') b h = f k' o' t' c' b h
while_lead w a e f (For_of k' o' x' m' y' n' z' c') b h = clash (kind_in w a) 6 7 (coded w a While e) (lead_coded w (For_of k' o' x' m' y' n' z' c') a b h) (λ y. omega (arith, y))
while_lead w a e f (For_declaring_of k' o' d' y' n' z' c') b h = clash (kind_in w a) 6 7 (coded w a While e) (lead_coded w (For_declaring_of k' o' d' y' n' z' c') a b h) (λ y. omega (arith, y))

pub for_lead : {P : Type 0} → (w : Words) → (a : ℕ) → kind_in w a ≡ For
    → ((k o : ℕ) → (x : Option Tree) → (m : ℕ) → (y : Option Tree) → (n : ℕ) → (z : Option Tree) → (c : ℕ) → (b : ℕ) → HoldsLead w (For_of k o x m y n z c) a b → P)
    → ((k o : ℕ) → (d : Heading) → (y : Option Tree) → (n : ℕ) → (z : Option Tree) → (c : ℕ) → (b : ℕ) → HoldsLead w (For_declaring_of k o d y n z c) a b → P)
    → (l : Lead) → (b : ℕ) → HoldsLead w l a b → P
for_lead w a e f g (Label_of n' c') b h = clash (kind_in w a) 7 1 (coded w a For e) (lead_coded w (Label_of n' c') a b h) (λ y. omega (arith, y))
for_lead w a e f g (Case_of k' t' c') b h = clash (kind_in w a) 7 2 (coded w a For e) (lead_coded w (Case_of k' t' c') a b h) (λ y. omega (arith, y))
for_lead w a e f g (Default_label_of k' c') b h = clash (kind_in w a) 7 3 (coded w a For e) (lead_coded w (Default_label_of k' c') a b h) (λ y. omega (arith, y))
for_lead w a e f g (If_of k' o' t' c') b h = clash (kind_in w a) 7 4 (coded w a For e) (lead_coded w (If_of k' o' t' c') a b h) (λ y. omega (arith, y))
for_lead w a e f g (If_else_of k' o' t' c' s' e') b h = clash (kind_in w a) 7 4 (coded w a For e) (lead_coded w (If_else_of k' o' t' c' s' e') a b h) (λ y. omega (arith, y))
for_lead w a e f g (Switch_of k' o' t' c') b h = clash (kind_in w a) 7 5 (coded w a For e) (lead_coded w (Switch_of k' o' t' c') a b h) (λ y. omega (arith, y))
for_lead w a e f g (While_of k' o' t' c') b h = clash (kind_in w a) 7 6 (coded w a For e) (lead_coded w (While_of k' o' t' c') a b h) (λ y. omega (arith, y))
for_lead w a e f g (For_of k' o' x' m' y' n' z' c') b h = f k' o' x' m' y' n' z' c' b h
for_lead w a e f g (For_declaring_of k' o' d' y' n' z' c') b h = g k' o' d' y' n' z' c' b h

pub goto_core : {P : Type 0} → PartsLaw → (w : Words) → (a : ℕ) → kind_in w a ≡ Goto
    → ((k n m : ℕ) → (b : ℕ) → HoldsCore w (Goto_of k n m) a b → P) → (c : Core) → (b : ℕ) → HoldsCore w c a b → P
goto_core law w a e f (Block_of o' is' c') b h = clash (kind_in w a) 9 14 (coded w a Goto e) (coded w a OpenBrace h.1) (λ y. omega (arith, y))
goto_core law w a e f (Expression_of e' m') b h =
    let low : code_of (kind_in w a) ≤ 8 = expression_code law w e' m' a b h in
    let here : code_of (kind_in w a) ≡ 9 = coded w a Goto e in
    absurd (omega arith)
goto_core law w a e f (Goto_of k' n' m') b h = f k' n' m' b h
goto_core law w a e f (Continue_of k' m') b h = clash (kind_in w a) 9 10 (coded w a Goto e) (coded w a Continue h.1) (λ y. omega (arith, y))
goto_core law w a e f (Break_of k' m') b h = clash (kind_in w a) 9 11 (coded w a Goto e) (coded w a Break h.1) (λ y. omega (arith, y))
goto_core law w a e f (Return_of k' e' m') b h = clash (kind_in w a) 9 12 (coded w a Goto e) (coded w a Return h.1) (λ y. omega (arith, y))
goto_core law w a e f (Do_of k' s' v' o' t' c' m') b h = clash (kind_in w a) 9 13 (coded w a Goto e) (coded w a Do h.1) (λ y. omega (arith, y))

pub continue_core : {P : Type 0} → PartsLaw → (w : Words) → (a : ℕ) → kind_in w a ≡ Continue
    → ((k m : ℕ) → (b : ℕ) → HoldsCore w (Continue_of k m) a b → P) → (c : Core) → (b : ℕ) → HoldsCore w c a b → P
continue_core law w a e f (Block_of o' is' c') b h = clash (kind_in w a) 10 14 (coded w a Continue e) (coded w a OpenBrace h.1) (λ y. omega (arith, y))
continue_core law w a e f (Expression_of e' m') b h =
    let low : code_of (kind_in w a) ≤ 8 = expression_code law w e' m' a b h in
    let here : code_of (kind_in w a) ≡ 10 = coded w a Continue e in
    absurd (omega arith)
continue_core law w a e f (Goto_of k' n' m') b h = clash (kind_in w a) 10 9 (coded w a Continue e) (coded w a Goto h.1) (λ y. omega (arith, y))
continue_core law w a e f (Continue_of k' m') b h = f k' m' b h
continue_core law w a e f (Break_of k' m') b h = clash (kind_in w a) 10 11 (coded w a Continue e) (coded w a Break h.1) (λ y. omega (arith, y))
continue_core law w a e f (Return_of k' e' m') b h = clash (kind_in w a) 10 12 (coded w a Continue e) (coded w a Return h.1) (λ y. omega (arith, y))
continue_core law w a e f (Do_of k' s' v' o' t' c' m') b h = clash (kind_in w a) 10 13 (coded w a Continue e) (coded w a Do h.1) (λ y. omega (arith, y))

pub break_core : {P : Type 0} → PartsLaw → (w : Words) → (a : ℕ) → kind_in w a ≡ Break
    → ((k m : ℕ) → (b : ℕ) → HoldsCore w (Break_of k m) a b → P) → (c : Core) → (b : ℕ) → HoldsCore w c a b → P
break_core law w a e f (Block_of o' is' c') b h = clash (kind_in w a) 11 14 (coded w a Break e) (coded w a OpenBrace h.1) (λ y. omega (arith, y))
break_core law w a e f (Expression_of e' m') b h =
    let low : code_of (kind_in w a) ≤ 8 = expression_code law w e' m' a b h in
    let here : code_of (kind_in w a) ≡ 11 = coded w a Break e in
    absurd (omega arith)
break_core law w a e f (Goto_of k' n' m') b h = clash (kind_in w a) 11 9 (coded w a Break e) (coded w a Goto h.1) (λ y. omega (arith, y))
break_core law w a e f (Continue_of k' m') b h = clash (kind_in w a) 11 10 (coded w a Break e) (coded w a Continue h.1) (λ y. omega (arith, y))
break_core law w a e f (Break_of k' m') b h = f k' m' b h
break_core law w a e f (Return_of k' e' m') b h = clash (kind_in w a) 11 12 (coded w a Break e) (coded w a Return h.1) (λ y. omega (arith, y))
break_core law w a e f (Do_of k' s' v' o' t' c' m') b h = clash (kind_in w a) 11 13 (coded w a Break e) (coded w a Do h.1) (λ y. omega (arith, y))

pub return_core : {P : Type 0} → PartsLaw → (w : Words) → (a : ℕ) → kind_in w a ≡ Return
    → ((k : ℕ) → (e : Option Tree) → (m : ℕ) → (b : ℕ) → HoldsCore w (Return_of k e m) a b → P) → (c : Core) → (b : ℕ) → HoldsCore w c a b → P
return_core law w a e f (Block_of o' is' c') b h = clash (kind_in w a) 12 14 (coded w a Return e) (coded w a OpenBrace h.1) (λ y. omega (arith, y))
return_core law w a e f (Expression_of e' m') b h =
    let low : code_of (kind_in w a) ≤ 8 = expression_code law w e' m' a b h in
    let here : code_of (kind_in w a) ≡ 12 = coded w a Return e in
    absurd (omega arith)
return_core law w a e f (Goto_of k' n' m') b h = clash (kind_in w a) 12 9 (coded w a Return e) (coded w a Goto h.1) (λ y. omega (arith, y))
return_core law w a e f (Continue_of k' m') b h = clash (kind_in w a) 12 10 (coded w a Return e) (coded w a Continue h.1) (λ y. omega (arith, y))
return_core law w a e f (Break_of k' m') b h = clash (kind_in w a) 12 11 (coded w a Return e) (coded w a Break h.1) (λ y. omega (arith, y))
return_core law w a e f (Return_of k' e' m') b h = f k' e' m' b h
return_core law w a e f (Do_of k' s' v' o' t' c' m') b h = clash (kind_in w a) 12 13 (coded w a Return e) (coded w a Do h.1) (λ y. omega (arith, y))

pub do_core : {P : Type 0} → PartsLaw → (w : Words) → (a : ℕ) → kind_in w a ≡ Do
    → ((k : ℕ) → (s : Statement) → (v o : ℕ) → (t : Tree) → (c m : ℕ) → (b : ℕ) → HoldsCore w (Do_of k s v o t c m) a b → P) → (c : Core) → (b : ℕ) → HoldsCore w c a b → P
do_core law w a e f (Block_of o' is' c') b h = clash (kind_in w a) 13 14 (coded w a Do e) (coded w a OpenBrace h.1) (λ y. omega (arith, y))
do_core law w a e f (Expression_of e' m') b h =
    let low : code_of (kind_in w a) ≤ 8 = expression_code law w e' m' a b h in
    let here : code_of (kind_in w a) ≡ 13 = coded w a Do e in
    absurd (omega arith)
do_core law w a e f (Goto_of k' n' m') b h = clash (kind_in w a) 13 9 (coded w a Do e) (coded w a Goto h.1) (λ y. omega (arith, y))
do_core law w a e f (Continue_of k' m') b h = clash (kind_in w a) 13 10 (coded w a Do e) (coded w a Continue h.1) (λ y. omega (arith, y))
do_core law w a e f (Break_of k' m') b h = clash (kind_in w a) 13 11 (coded w a Do e) (coded w a Break h.1) (λ y. omega (arith, y))
do_core law w a e f (Return_of k' e' m') b h = clash (kind_in w a) 13 12 (coded w a Do e) (coded w a Return h.1) (λ y. omega (arith, y))
do_core law w a e f (Do_of k' s' v' o' t' c' m') b h = f k' s' v' o' t' c' m' b h

pub block_core : {P : Type 0} → PartsLaw → (w : Words) → (a : ℕ) → kind_in w a ≡ OpenBrace
    → ((o : ℕ) → (is : Items) → (c : ℕ) → (b : ℕ) → HoldsCore w (Block_of o is c) a b → P) → (c : Core) → (b : ℕ) → HoldsCore w c a b → P
block_core law w a e f (Block_of o' is' c') b h = f o' is' c' b h
block_core law w a e f (Expression_of e' m') b h =
    let low : code_of (kind_in w a) ≤ 8 = expression_code law w e' m' a b h in
    let here : code_of (kind_in w a) ≡ 14 = coded w a OpenBrace e in
    absurd (omega arith)
block_core law w a e f (Goto_of k' n' m') b h = clash (kind_in w a) 14 9 (coded w a OpenBrace e) (coded w a Goto h.1) (λ y. omega (arith, y))
block_core law w a e f (Continue_of k' m') b h = clash (kind_in w a) 14 10 (coded w a OpenBrace e) (coded w a Continue h.1) (λ y. omega (arith, y))
block_core law w a e f (Break_of k' m') b h = clash (kind_in w a) 14 11 (coded w a OpenBrace e) (coded w a Break h.1) (λ y. omega (arith, y))
block_core law w a e f (Return_of k' e' m') b h = clash (kind_in w a) 14 12 (coded w a OpenBrace e) (coded w a Return h.1) (λ y. omega (arith, y))
block_core law w a e f (Do_of k' s' v' o' t' c' m') b h = clash (kind_in w a) 14 13 (coded w a OpenBrace e) (coded w a Do h.1) (λ y. omega (arith, y))

plain_not : (k : Kind) → (n : ℕ) → (code_of k ≤ 1) ⊎ (code_of k ≡ 8) → code_of k ≡ n → 9 ≤ n → ⊥
plain_not k n (inl le) e h = omega arith
plain_not k n (inr q) e h = omega arith

plain_lead : (w : Words) → (a : ℕ) → labels_at w a ≡ false → (code_of (kind_in w a) ≤ 1) ⊎ (code_of (kind_in w a) ≡ 8)
    → (l : Lead) → (n : ℕ) → HoldsLead w l a n → ⊥
plain_lead w a lack (inl le) l n h =
    let parts = labelled w l a n h le in
    true≢false (sym (labels_there w a parts.0 parts.1) ∙ lack)
plain_lead w a lack (inr q) l n h =
    let here : code_of (kind_in w a) ≡ lead_code l = lead_coded w l a n h in
    let low : lead_code l ≤ 7 = lead_low l in
    omega arith

-- a core where nothing but an expression statement begins
plain_core : {P : Type 0} → (w : Words) → (a : ℕ) → (code_of (kind_in w a) ≤ 1) ⊎ (code_of (kind_in w a) ≡ 8)
    → ((e : Option Tree) → (m b : ℕ) → HoldsCore w (Expression_of e m) a b → P) → (c : Core) → (b : ℕ) → HoldsCore w c a b → P
plain_core w a e f (Block_of o' is' c') b h = absurd (plain_not (kind_in w a) 14 e (coded w a OpenBrace h.1) (omega arith))
plain_core w a e f (Expression_of e' m') b h = f e' m' b h
plain_core w a e f (Goto_of k' n' m') b h = absurd (plain_not (kind_in w a) 9 e (coded w a Goto h.1) (omega arith))
plain_core w a e f (Continue_of k' m') b h = absurd (plain_not (kind_in w a) 10 e (coded w a Continue h.1) (omega arith))
plain_core w a e f (Break_of k' m') b h = absurd (plain_not (kind_in w a) 11 e (coded w a Break h.1) (omega arith))
plain_core w a e f (Return_of k' e' m') b h = absurd (plain_not (kind_in w a) 12 e (coded w a Return h.1) (omega arith))
plain_core w a e f (Do_of k' s' v' o' t' c' m') b h = absurd (plain_not (kind_in w a) 13 e (coded w a Do h.1) (omega arith))

pub plain_statement : {P : Type 0} → (w : Words) → (a : ℕ) → labels_at w a ≡ false → is_marked (kind_in w a) ≡ false
    → ((e : Option Tree) → (m b : ℕ) → HoldsCore w (Expression_of e m) a b → P) → (s : Statement) → (b : ℕ) → HoldsStatement w s a b → P
plain_statement w a lack un f (Statement_of No_leads c) b h =
    plain_core w a (unmarked_code (kind_in w a) un) f c b (subst (λ x. HoldsCore w c x b) h.1 h.2)
plain_statement w a lack un f (Statement_of (Lead_then l ls) c) b h =
    absurd (plain_lead w a lack (unmarked_code (kind_in w a) un) l h.1.0 h.1.1)

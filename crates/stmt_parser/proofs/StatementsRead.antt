-- Statements and blocks, as the parser finds them.
use Rattle.std.proofs.Common.{◌≡◌, refl, ap, sym, ◌∙◌, subst, ℕ, ◌+◌, ◌<◌, ◌≤◌, length, List, [], ◌∷◌, ◌++◌, map, arith, Bool, true, false, ◌&&◌, true≢false, None, Some}
use Rattle.tree_data.specs.Statements.{Statement, Statement_of, Core, Block_of, Expression_of, Goto_of, Continue_of, Break_of, Return_of, Do_of, Lead, Label_of, Case_of, Default_label_of, If_of, If_else_of, Switch_of, While_of, For_of, For_declaring_of, Leads, No_leads, Lead_then, Item, Declared_of, Stated_of, Items, No_items, Item_then, leads, items, led, bare, is_closed, takes_no_else, take_no_else}
use Rattle.tree_data.specs.Trees.{Tree, Heading}
use Rattle.c_parser.specs.declared.answers.Stop.{Stop}
use Rattle.c_parser.specs.declared.kinds.Kind.{Kind}
use Rattle.c_parser.specs.declared.kinds.Kind.TheVariants.{OpenBrace, CloseBrace, Semicolon, If, Else, Goto, Continue, Break, Return, Do}
use Rattle.c_parser.specs.Parts.{PartsLaw, FoundDeclaration, HoldsDeclaration, starts_declaration, past_tree, past_declaration}
use Rattle.c_parser.specs.Reading.{IsWant}
use Rattle.c_parser.specs.Words.{Words, kind_in}
use Rattle.stmt_parser.specs.Found.{FoundTest, FoundLead, FoundStatement, FailsStatement, FoundItem, FailsItem}
use Rattle.stmt_parser.specs.Frames.{Further, Leading}
use Rattle.stmt_parser.specs.Fronts.{labels_at, declares_at}
use Rattle.stmt_parser.specs.InForce.{past_optional, inside, all_inside, past_core, past_led, past_item, past_items}
use Rattle.stmt_parser.specs.Reading.{HoldsTest, HoldsStatement, HoldsCore, HoldsLead, HoldLeads, HoldsItem, HoldItems, is_else, Ends}
use Rattle.stmt_parser.proofs.CoresRead.{core_fails, bare_found}
use Rattle.stmt_parser.proofs.InForceLemmas.{all_inside_blind, items_blind, else_blind, close_blind}
use Rattle.stmt_parser.proofs.Marks.{code_of, clash, coded, is_close, start_declares_not, declaring_code}
use Rattle.stmt_parser.proofs.OneReading.{lead_coded, labelled, core_apart, lead_only, Likewise, alike, without, Rest, ends_inside, no_else_first, closed_ends, behind_item, item_ends, item_only}
use Rattle.stmt_parser.proofs.PartsRead.{optional_kinds}
use Rattle.stmt_parser.proofs.Views.{and_both, core_code, block_core, labels_there, declares_parts, declares_not_parts}

pub mapped : {A B : Type 0} → (f : A → B) → (xs : List A) → (y : A) → map f (xs ++ y ∷ []) ≡ map f xs ++ f y ∷ []
mapped f [] y = refl
mapped f (x ∷ xs) y = ap (λ zs. f x ∷ zs) (mapped f xs y)

else_is : (k : Kind) → is_else k ≡ true → k ≡ Else
else_is Else h = refl
else_is _ h = absurd (true≢false (sym h))

brace_is : (k : Kind) → is_close k ≡ true → k ≡ CloseBrace
brace_is CloseBrace h = refl
brace_is _ h = absurd (true≢false (sym h))

-- `if`: whatever holds of each test and each statement behind it
pub if_by : PartsLaw → (w : Words) → (a : ℕ) → kind_in w a ≡ If → (x : Stop)
    → ((o : ℕ) → (t : Tree) → (c m : ℕ) → HoldsTest w o t c (a + 1) m → (s : Statement) → (b : ℕ) → HoldsStatement (past_tree w t) s m b
    → Ends (past_tree w t) s b → IsWant x)
    → FailsStatement w a x
if_by law w a q x f (Statement_of No_leads c) b h ends =
    let here : code_of (kind_in w a) ≡ 4 = coded w a If q in
    let more : 8 ≤ code_of (kind_in w a) = core_code law w c a b (subst (λ i. HoldsCore w c i b) h.1 h.2) (omega (arith, here)) in
    absurd (omega (arith, here, more))
if_by law w a q x f (Statement_of (Lead_then (Label_of n' c') ls) r) b h ends =
    clash (kind_in w a) 4 1 (coded w a If q) (lead_coded w (Label_of n' c') a h.1.0 h.1.1) (λ y. omega (arith, y))
if_by law w a q x f (Statement_of (Lead_then (Case_of k' t' c') ls) r) b h ends =
    clash (kind_in w a) 4 2 (coded w a If q) (lead_coded w (Case_of k' t' c') a h.1.0 h.1.1) (λ y. omega (arith, y))
if_by law w a q x f (Statement_of (Lead_then (Default_label_of k' c') ls) r) b h ends =
    clash (kind_in w a) 4 3 (coded w a If q) (lead_coded w (Default_label_of k' c') a h.1.0 h.1.1) (λ y. omega (arith, y))
if_by law w a q x f (Statement_of (Lead_then (If_of k' o' t' c') ls) r) b h ends =
    f o' t' c' h.1.0 h.1.1.2 (Statement_of ls r) b (h.0, h.1.2, h.2) (ends_inside law w (If_of k' o' t' c') ls r b ends)
if_by law w a q x f (Statement_of (Lead_then (If_else_of k' o' t' c' s' e') ls) r) b h ends =
    f o' t' c' h.1.1.0 h.1.1.3 s' e' h.1.1.4 (closed_ends (past_tree w t') s' e' h.1.1.5)
if_by law w a q x f (Statement_of (Lead_then (Switch_of k' o' t' c') ls) r) b h ends =
    clash (kind_in w a) 4 5 (coded w a If q) (lead_coded w (Switch_of k' o' t' c') a h.1.0 h.1.1) (λ y. omega (arith, y))
if_by law w a q x f (Statement_of (Lead_then (While_of k' o' t' c') ls) r) b h ends =
    clash (kind_in w a) 4 6 (coded w a If q) (lead_coded w (While_of k' o' t' c') a h.1.0 h.1.1) (λ y. omega (arith, y))
if_by law w a q x f (Statement_of (Lead_then (For_of k' o' x' m' y' n' z' c') ls) r) b h ends =
    clash (kind_in w a) 4 7 (coded w a If q) (lead_coded w (For_of k' o' x' m' y' n' z' c') a h.1.0 h.1.1) (λ y. omega (arith, y))
if_by law w a q x f (Statement_of (Lead_then (For_declaring_of k' o' d' y' n' z' c') ls) r) b h ends =
    clash (kind_in w a) 4 7 (coded w a If q) (lead_coded w (For_declaring_of k' o' d' y' n' z' c') a h.1.0 h.1.1) (λ y. omega (arith, y))

pub if_untested : PartsLaw → (w : Words) → (a : ℕ) → kind_in w a ≡ If → (e : Stop)
    → ((o : ℕ) → (t : Tree) → (c b : ℕ) → HoldsTest w o t c (a + 1) b → IsWant e) → FailsStatement w a e
if_untested law w a k e f = if_by law w a k e (λ o t c m h s b g n. f o t c m h)

pub if_unchosen : PartsLaw → (w : Words) → (a : ℕ) → kind_in w a ≡ If → (u : Tree) → (p : ℕ)
    → ((o : ℕ) → (t : Tree) → (c b : ℕ) → HoldsTest w o t c (a + 1) b → (u ≡ t) × (p ≡ c)) → (e : Stop) → FailsStatement (past_tree w u) (p + 1) e
    → FailsStatement w a e
if_unchosen law w a k u p only e f =
    if_by law w a k e
    (λ o t c m h s b g n.
    let r = only o t c m h in
    let same : m ≡ p + 1 = h.4 ∙ ap (λ i. i + 1) (sym r.1) in
    f s b
    (subst (λ x. HoldsStatement (past_tree w x) s (p + 1) b) (sym r.0) (subst (λ i. HoldsStatement (past_tree w t) s i b) same g))
    (subst (λ x. Ends (past_tree w x) s b) (sym r.0) n))

pub if_alone_found : PartsLaw → (w : Words) → (a : ℕ) → kind_in w a ≡ If → (t : Tree) → (c : ℕ) → FoundTest w (a + 1) t c → (s : Statement) → (b : ℕ)
    → FoundStatement (past_tree w t) (c + 1) s b → (kind_in w b ≡ Else → ⊥) → FoundStatement w a (led (If_of a (a + 1) t c ∷ []) s) b
if_alone_found law w a k t c f (Statement_of ls r) b g lack =
    let first : a + 1 < c = f.forth in
    let second : c + 1 < b = g.forth in
    let room : b ≤ length (past_tree w t).kinds = g.inside in
    let same : length (past_tree w t).kinds ≡ length w.kinds = ap (λ ks. length ks) (law.tree_kinds w t) in
    let h : HoldsStatement (past_tree w t) (Statement_of ls r) (c + 1) b = g.reads in
    let lead : HoldsLead w (If_of a (a + 1) t c) a (c + 1) = (refl, k, f.reads) in
    record {
      reads = (h.0, (c + 1, lead, h.1), h.2);
      ends = λ open_ els. lack (else_is (kind_in w b) els);
      forth = omega (arith, first, second);
      inside = omega (arith, room, same);
    }

pub if_else_found : PartsLaw → (w : Words) → (a : ℕ) → kind_in w a ≡ If → (t : Tree) → (c : ℕ) → FoundTest w (a + 1) t c → (s : Statement) → (b : ℕ)
    → FoundStatement (past_tree w t) (c + 1) s b → kind_in w b ≡ Else → b < length w.kinds → FoundLead w a (If_else_of a (a + 1) t c s b) (b + 1)
if_else_found law w a k t c f s b g q le =
    let first : a + 1 < c = f.forth in
    let second : c + 1 < b = g.forth in
    record {
      reads = (c + 1, refl, k, f.reads, g.reads, shut (is_closed s) refl, q, refl);
      alone = refl;
      forth = omega (arith, first, second);
      inside = omega (arith, le);
    }
  where
    shut : (y : Bool) → y ≡ is_closed s → is_closed s ≡ true
    shut true e = sym e
    shut false e = absurd (g.ends (sym e) (law.tree_blind is_else else_blind w t b ∙ ap is_else q))

-- what stands in front, one after another
leading_starts : (w v : Words) → v ≡ w → (a : ℕ) → a ≤ length w.kinds → Leading w a [] v a
leading_starts w v e a le = record {
  inner = e;
  holds = refl;
  closed = refl;
  kinds = ap (λ x. x.kinds) e;
  forth = omega arith;
  within = le;
  goes = λ s b h n. subst (λ x. Further x a b) (sym e) (record { rest = s; reads = h; ends = n });
}

pub leading_begins : (w v : Words) → v ≡ w → (a : ℕ) → a ≤ length w.kinds → (xs : List Lead) → xs ≡ [] → Leading w a xs v a
leading_begins w v e a le xs none = subst (λ ys. Leading w a ys v a) (sym none) (leading_starts w v e a le)

leads_push : (xs : List Lead) → (l : Lead) → (w : Words) → (a p n : ℕ) → HoldLeads w (leads xs No_leads) a p
    → HoldsLead (all_inside w (leads xs No_leads)) l p n → HoldLeads w (leads (xs ++ l ∷ []) No_leads) a n
leads_push [] l w a p n h g = (n, subst (λ i. HoldsLead w l i n) h g, refl)
leads_push (x ∷ xs) l w a p n h g = (h.0, h.1, leads_push xs l (inside w x) h.0 p n h.2 g)

inside_push : (xs : List Lead) → (l : Lead) → (w : Words) → inside (all_inside w (leads xs No_leads)) l ≡ all_inside w (leads (xs ++ l ∷ []) No_leads)
inside_push [] l w = refl
inside_push (x ∷ xs) l w = inside_push xs l (inside w x)

closed_push : (xs : List Lead) → (l : Lead) → take_no_else (leads xs No_leads) ≡ true → takes_no_else l ≡ true
    → take_no_else (leads (xs ++ l ∷ []) No_leads) ≡ true
closed_push [] l h g = ap (λ y. y && true) g
closed_push (x ∷ xs) l h g =
    let parts = and_both (takes_no_else x) (take_no_else (leads xs No_leads)) h in
    λ i. parts.0 i && closed_push xs l parts.1 g i

pub inside_kinds : PartsLaw → (w : Words) → (l : Lead) → (inside w l).kinds ≡ w.kinds
inside_kinds law w (Label_of n c) = refl
inside_kinds law w (Case_of k t c) = law.tree_kinds w t
inside_kinds law w (Default_label_of k c) = refl
inside_kinds law w (If_of k o t c) = law.tree_kinds w t
inside_kinds law w (If_else_of k o t c s e) = law.tree_kinds w t
inside_kinds law w (Switch_of k o t c) = law.tree_kinds w t
inside_kinds law w (While_of k o t c) = law.tree_kinds w t
inside_kinds law w (For_of k o x m y n z c) =
    optional_kinds law (past_optional (past_optional w x) y) z ∙ optional_kinds law (past_optional w x) y ∙ optional_kinds law w x
inside_kinds law w (For_declaring_of k o d y n z c) =
    optional_kinds law (past_optional (past_declaration w d) y) z
    ∙ optional_kinds law (past_declaration w d) y
    ∙ law.declaration_kinds w d

further : PartsLaw → (v : Words) → (place : ℕ) → (l : Lead) → (next : ℕ) → HoldsLead v l place next → takes_no_else l ≡ true → (b : ℕ)
    → Further v place b → Further (inside v l) next b
further law v place l next h alone b f = from f.rest f.reads f.ends
  where
    by_likeness : (x : Lead) → (xs : Leads) → (c : Core) → (n m : ℕ) → HoldLeads (inside v x) xs n m → HoldsCore (all_inside (inside v x) xs) c m b
        → Ends v (Statement_of (Lead_then x xs) c) b → Likewise v l x next n → Further (inside v l) next b
    by_likeness x xs c n m hs hc ends (alike p q) =
        subst (λ y. Further (inside v y) next b) (sym p)
        (subst (λ i. Further (inside v x) i b) (sym q)
        (record { rest = Statement_of xs c; reads = (m, hs, hc); ends = ends_inside law v x xs c b ends }))
    by_likeness x xs c n m hs hc ends (without s e t hold closed els) = absurd (true≢false (sym alone ∙ t))

    from : (s : Statement) → HoldsStatement v s place b → Ends v s b → Further (inside v l) next b
    from (Statement_of No_leads c) g ends =
        absurd (core_apart law v c place b (subst (λ i. HoldsCore v c i b) g.1 g.2) l next h)
    from (Statement_of (Lead_then x xs) c) g ends =
        let behind : Rest v x g.1.0 = record {
          rest = Statement_of xs c;
          end = b;
          reads = (g.0, g.1.2, g.2);
          no_else = λ t. ends (no_else_first x xs t);
        } in
        by_likeness x xs c g.1.0 g.0 g.1.2 g.2 ends (lead_only law l v place next h x g.1.0 g.1.1 behind)

pub leading_turns : PartsLaw → (w : Words) → (a : ℕ) → (xs : List Lead) → (v : Words) → (place : ℕ) → Leading w a xs v place → (l : Lead) → (next : ℕ)
    → FoundLead v place l next → (u : Words) → u ≡ inside v l → (ys : List Lead) → ys ≡ xs ++ l ∷ [] → Leading w a ys u next
leading_turns law w a xs v place h l next f u past ys e =
    let start : a ≤ place = h.forth in
    let step : place < next = f.forth in
    let room : next ≤ length v.kinds = f.inside in
    let same : length v.kinds ≡ length w.kinds = ap length h.kinds in
    subst (λ zs. Leading w a zs u next) (sym e)
    (record {
      inner = past ∙ ap (λ x. inside x l) h.inner ∙ inside_push xs l w;
      holds = leads_push xs l w a place next h.holds (subst (λ x. HoldsLead x l place next) h.inner f.reads);
      closed = closed_push xs l h.closed f.alone;
      kinds = ap (λ x. x.kinds) past ∙ inside_kinds law v l ∙ h.kinds;
      forth = omega (arith, start, step);
      within = omega (arith, room, same);
      goes = λ s b g n. subst (λ x. Further x next b) (sym past) (further law v place l next f.reads f.alone b (h.goes s b g n));
    })

pub leading_fails : (w : Words) → (a : ℕ) → (xs : List Lead) → (v : Words) → (place : ℕ) → Leading w a xs v place → (e : Stop) → FailsStatement v place e
    → FailsStatement w a e
leading_fails w a xs v place h e f s b g n = let more = h.goes s b g n in f more.rest b more.reads more.ends

joined : (xs : List Lead) → (more : Leads) → (c : Core) → (w : Words) → (a p b : ℕ) → HoldLeads w (leads xs No_leads) a p
    → HoldsStatement (all_inside w (leads xs No_leads)) (Statement_of more c) p b → HoldsStatement w (Statement_of (leads xs more) c) a b
joined [] more c w a p b h g = subst (λ i. HoldsStatement w (Statement_of more c) i b) h g
joined (x ∷ xs) more c w a p b h g =
    let r = joined xs more c (inside w x) h.0 p b h.2 g in
    (r.0, (h.0, h.1, r.1), r.2)

opened : (xs : List Lead) → (more : Leads) → take_no_else (leads xs No_leads) ≡ true → take_no_else (leads xs more) ≡ false → take_no_else more ≡ false
opened [] more h g = g
opened (x ∷ xs) more h g =
    let parts = and_both (takes_no_else x) (take_no_else (leads xs No_leads)) h in
    opened xs more parts.1 (sym (ap (λ y. y && take_no_else (leads xs more)) parts.0) ∙ g)

pub leading_ends : PartsLaw → (w : Words) → (a : ℕ) → (xs : List Lead) → (v : Words) → (place : ℕ) → Leading w a xs v place → (s : Statement) → (b : ℕ)
    → FoundStatement v place s b → FoundStatement w a (led xs s) b
leading_ends law w a xs v place h (Statement_of more c) b f =
    let start : a ≤ place = h.forth in
    let step : place < b = f.forth in
    let room : b ≤ length v.kinds = f.inside in
    let same : length v.kinds ≡ length w.kinds = ap length h.kinds in
    record {
      reads = joined xs more c w a place b h.holds (subst (λ x. HoldsStatement x (Statement_of more c) place b) h.inner f.reads);
      ends =
          λ t els.
          f.ends (opened xs more h.closed t)
          (ap (λ x. is_else (kind_in x b)) h.inner ∙ all_inside_blind law is_else else_blind w (leads xs No_leads) b ∙ els);
      forth = omega (arith, start, step);
      inside = omega (arith, room, same);
    }

-- items of a block
pub declared_found : (w : Words) → (a : ℕ) → (d : Heading) → (b : ℕ) → FoundDeclaration w a d b → FoundItem w a (Declared_of d) b
declared_found w a d b f = record { reads = f.reads; ends = tt; forth = f.forth; inside = f.inside }

pub stated_found : (w : Words) → (a : ℕ) → (s : Statement) → (b : ℕ) → FoundStatement w a s b → FoundItem w a (Stated_of s) b
stated_found w a s b f = record { reads = f.reads; ends = f.ends; forth = f.forth; inside = f.inside }

core_kinds : PartsLaw → (w : Words) → (c : Core) → (past_core w c).kinds ≡ w.kinds
core_kinds law w (Block_of o is c) = refl
core_kinds law w (Expression_of e m) = optional_kinds law w e
core_kinds law w (Goto_of k n m) = refl
core_kinds law w (Continue_of k m) = refl
core_kinds law w (Break_of k m) = refl
core_kinds law w (Return_of k e m) = optional_kinds law w e
core_kinds law w (Do_of k s v o t c m) = refl

led_kinds : PartsLaw → (w : Words) → (ls : Leads) → (c : Core) → (past_led w ls c).kinds ≡ w.kinds
led_kinds law w No_leads c = core_kinds law w c
led_kinds law w (Lead_then (Label_of n' c') ls) c = led_kinds law w ls c
led_kinds law w (Lead_then (Case_of k' t' c') ls) c = led_kinds law (past_tree w t') ls c ∙ law.tree_kinds w t'
led_kinds law w (Lead_then (Default_label_of k' c') ls) c = led_kinds law w ls c
led_kinds law w (Lead_then (If_of k' o' t' c') ls) c = refl
led_kinds law w (Lead_then (If_else_of k' o' t' c' s' e') ls) c = refl
led_kinds law w (Lead_then (Switch_of k' o' t' c') ls) c = refl
led_kinds law w (Lead_then (While_of k' o' t' c') ls) c = refl
led_kinds law w (Lead_then (For_of k' o' x' m' y' n' z' c') ls) c = refl
led_kinds law w (Lead_then (For_declaring_of k' o' d' y' n' z' c') ls) c = refl

core_undeclared : PartsLaw → (w : Words) → (c : Core) → (a b : ℕ) → HoldsCore w c a b → starts_declaration (kind_in w a) ≡ true → ⊥
core_undeclared law w (Expression_of None m) a b h st =
    let low : code_of (kind_in w a) ≤ 1 = declaring_code (kind_in w a) st in
    let here : code_of (kind_in w a) ≡ 8 = ap (λ i. code_of (kind_in w i)) (sym h.0) ∙ coded w m Semicolon h.1 in
    omega (arith, low, here)
core_undeclared law w (Expression_of (Some t) m) a b h st = start_declares_not (kind_in w a) (law.expression_starts w 1 t a m h.0) st
core_undeclared law w (Block_of o is c) a b h st =
    let low : code_of (kind_in w a) ≤ 1 = declaring_code (kind_in w a) st in
    let here : code_of (kind_in w a) ≡ 14 = coded w a OpenBrace h.1 in
    omega (arith, low, here)
core_undeclared law w (Goto_of k n m) a b h st =
    let low : code_of (kind_in w a) ≤ 1 = declaring_code (kind_in w a) st in
    let here : code_of (kind_in w a) ≡ 9 = coded w a Goto h.1 in
    omega (arith, low, here)
core_undeclared law w (Continue_of k m) a b h st =
    let low : code_of (kind_in w a) ≤ 1 = declaring_code (kind_in w a) st in
    let here : code_of (kind_in w a) ≡ 10 = coded w a Continue h.1 in
    omega (arith, low, here)
core_undeclared law w (Break_of k m) a b h st =
    let low : code_of (kind_in w a) ≤ 1 = declaring_code (kind_in w a) st in
    let here : code_of (kind_in w a) ≡ 11 = coded w a Break h.1 in
    omega (arith, low, here)
core_undeclared law w (Return_of k e m) a b h st =
    let low : code_of (kind_in w a) ≤ 1 = declaring_code (kind_in w a) st in
    let here : code_of (kind_in w a) ≡ 12 = coded w a Return h.1 in
    omega (arith, low, here)
core_undeclared law w (Do_of k s v o t c m) a b h st =
    let low : code_of (kind_in w a) ≤ 1 = declaring_code (kind_in w a) st in
    let here : code_of (kind_in w a) ≡ 13 = coded w a Do h.1 in
    omega (arith, low, here)

undeclared : PartsLaw → (w : Words) → (s : Statement) → (a b : ℕ) → HoldsStatement w s a b → starts_declaration (kind_in w a) ≡ true
    → labels_at w a ≡ false → ⊥
undeclared law w (Statement_of No_leads c) a b h st lack = core_undeclared law w c a b (subst (λ i. HoldsCore w c i b) h.1 h.2) st
undeclared law w (Statement_of (Lead_then l ls) c) a b h st lack =
    let parts = labelled w l a h.1.0 h.1.1 (declaring_code (kind_in w a) st) in
    true≢false (sym (labels_there w a parts.0 parts.1) ∙ lack)

pub declared_fails : PartsLaw → (w : Words) → (a : ℕ) → declares_at w a ≡ true → (e : Stop)
    → ((d : Heading) → (b : ℕ) → HoldsDeclaration w d a b → IsWant e) → FailsItem w a e
declared_fails law w a h e f (Declared_of d) b g n = f d b g
declared_fails law w a h e f (Stated_of s) b g n =
    let parts = declares_parts w a h in
    absurd (undeclared law w s a b g parts.0 parts.1)

pub stated_fails : PartsLaw → (w : Words) → (a : ℕ) → declares_at w a ≡ false → (e : Stop) → FailsStatement w a e → FailsItem w a e
stated_fails law w a h e f (Declared_of d) b g n =
    absurd (declares_not_parts w a h (law.declaration_starts w d a b g) (λ q. law.declaration_unlabelled w d a b g q))
stated_fails law w a h e f (Stated_of s) b g n = f s b g n

pub record Onward (v : Words) (place c : ℕ) : Type 0 where
  pub rest : Items
  pub reads : HoldItems v rest place c

pub record Blocking (w : Words) (a : ℕ) (xs : List Item) (v : Words) (place : ℕ) : Type 0 where
  pub inner : v ≡ past_items w (items xs)
  pub holds : HoldItems w (items xs) (a + 1) place
  pub kinds : v.kinds ≡ w.kinds
  pub forth : a < place
  pub within : place ≤ length w.kinds
  pub goes : (js : Items) → (c : ℕ) → HoldItems w js (a + 1) c → kind_in w c ≡ CloseBrace → Onward v place c

blocking_starts : (w v : Words) → v ≡ w → (a : ℕ) → a < length w.kinds → Blocking w a [] v (a + 1)
blocking_starts w v e a le = record {
  inner = e;
  holds = refl;
  kinds = ap (λ x. x.kinds) e;
  forth = omega arith;
  within = omega (arith, le);
  goes = λ js c h q. subst (λ x. Onward x (a + 1) c) (sym e) (record { rest = js; reads = h });
}

pub blocking_begins : (w v : Words) → v ≡ w → (a : ℕ) → a < length w.kinds → (xs : List Item) → xs ≡ [] → Blocking w a xs v (a + 1)
blocking_begins w v e a le xs none = subst (λ ys. Blocking w a ys v (a + 1)) (sym none) (blocking_starts w v e a le)

items_push : (xs : List Item) → (i : Item) → (w : Words) → (a p n : ℕ) → HoldItems w (items xs) a p → HoldsItem (past_items w (items xs)) i p n
    → HoldItems w (items (xs ++ i ∷ [])) a n
items_push [] i w a p n h g = (n, subst (λ j. HoldsItem w i j n) h g, refl)
items_push (x ∷ xs) i w a p n h g = (h.0, h.1, items_push xs i (past_item w x) h.0 p n h.2 g)

past_push : (xs : List Item) → (i : Item) → (w : Words) → past_item (past_items w (items xs)) i ≡ past_items w (items (xs ++ i ∷ []))
past_push [] i w = refl
past_push (x ∷ xs) i w = past_push xs i (past_item w x)

item_kinds : PartsLaw → (w : Words) → (i : Item) → (past_item w i).kinds ≡ w.kinds
item_kinds law w (Declared_of d) = law.declaration_kinds w d
item_kinds law w (Stated_of (Statement_of ls c)) = led_kinds law w ls c

-- the brace that ends a block is one for each scope
shut_in : PartsLaw → (w : Words) → (xs : List Item) → (v : Words) → v ≡ past_items w (items xs) → (c : ℕ)
    → is_close (kind_in v c) ≡ is_close (kind_in w c)
shut_in law w xs v e c = ap (λ x. is_close (kind_in x c)) e ∙ items_blind law is_close close_blind w (items xs) c

one_more : PartsLaw → (v : Words) → (place : ℕ) → (i : Item) → (next : ℕ) → FoundItem v place i next → (kind_in v place ≡ CloseBrace → ⊥) → (c : ℕ)
    → is_close (kind_in v c) ≡ true → Onward v place c → Onward (past_item v i) next c
one_more law v place i next f lack c q o = from o.rest o.reads
  where
    from : (js : Items) → HoldItems v js place c → Onward (past_item v i) next c
    from No_items h = absurd (lack (ap (kind_in v) (sym h) ∙ brace_is (kind_in v c) q))
    from (Item_then j js) h =
        let same =
        item_only law i v place next f.reads f.ends j h.0 h.1 (item_ends v j h.0 (behind_item law v j js h.0 c h.2 q)) in
        record {
          rest = js;
          reads = subst (λ x. HoldItems (past_item v x) js next c) (sym same.0) (subst (λ p. HoldItems (past_item v j) js p c) (sym same.1) h.2);
        }

pub blocking_turns : PartsLaw → (w : Words) → (a : ℕ) → (xs : List Item) → (v : Words) → (place : ℕ) → Blocking w a xs v place
    → (kind_in v place ≡ CloseBrace → ⊥) → (i : Item) → (next : ℕ) → FoundItem v place i next → (u : Words) → u ≡ past_item v i → (ys : List Item)
    → ys ≡ xs ++ i ∷ [] → Blocking w a ys u next
blocking_turns law w a xs v place h lack i next f u past ys e =
    let start : a < place = h.forth in
    let step : place < next = f.forth in
    let room : next ≤ length v.kinds = f.inside in
    let same : length v.kinds ≡ length w.kinds = ap length h.kinds in
    subst (λ zs. Blocking w a zs u next) (sym e)
    (record {
      inner = past ∙ ap (λ x. past_item x i) h.inner ∙ past_push xs i w;
      holds = items_push xs i w (a + 1) place next h.holds (subst (λ x. HoldsItem x i place next) h.inner f.reads);
      kinds = ap (λ x. x.kinds) past ∙ item_kinds law v i ∙ h.kinds;
      forth = omega (arith, start, step);
      within = omega (arith, room, same);
      goes =
          λ js c g q.
          subst (λ x. Onward x next c) (sym past)
          (one_more law v place i next f lack c (shut_in law w xs v h.inner c ∙ ap is_close q) (h.goes js c g q));
    })

pub blocking_fails : PartsLaw → (w : Words) → (a : ℕ) → kind_in w a ≡ OpenBrace → (xs : List Item) → (v : Words) → (place : ℕ) → Blocking w a xs v place
    → (kind_in v place ≡ CloseBrace → ⊥) → (e : Stop) → FailsItem v place e → FailsStatement w a e
blocking_fails law w a k xs v place h lack e f =
    core_fails w a 14 (coded w a OpenBrace k) (omega arith) e
    (block_core law w a k (λ o is c b g. from c (shut_in law w xs v h.inner c ∙ ap is_close g.3) (h.goes is c g.2 g.3)))
  where
    by : (c : ℕ) → is_close (kind_in v c) ≡ true → (js : Items) → HoldItems v js place c → IsWant e
    by c q No_items g = absurd (lack (ap (kind_in v) (sym g) ∙ brace_is (kind_in v c) q))
    by c q (Item_then j js) g = f j g.0 g.1 (item_ends v j g.0 (behind_item law v j js g.0 c g.2 q))

    from : (c : ℕ) → is_close (kind_in v c) ≡ true → Onward v place c → IsWant e
    from c q o = by c q o.rest o.reads

pub blocking_ends : PartsLaw → (w : Words) → (a : ℕ) → kind_in w a ≡ OpenBrace → (xs : List Item) → (v : Words) → (place : ℕ) → Blocking w a xs v place
    → kind_in v place ≡ CloseBrace → place < length v.kinds → FoundStatement w a (bare (Block_of a (items xs) place)) (place + 1)
blocking_ends law w a k xs v place h q le =
    let start : a < place = h.forth in
    let same : length v.kinds ≡ length w.kinds = ap length h.kinds in
    let shut : kind_in w place ≡ CloseBrace = brace_is (kind_in w place) (sym (shut_in law w xs v h.inner place) ∙ ap is_close q) in
    bare_found w a (Block_of a (items xs) place) (place + 1) (refl, k, h.holds, shut, refl) (omega (arith, start)) (omega (arith, le, same))

-- The identifiers in force behind a statement, as the parser tells them by its front.
use Rattle.std.proofs.Common.{◌≡◌, refl, ap, sym, ◌∙◌, subst, ℕ, ◌+◌, ◌<◌, ◌≤◌, arith, Bool, true, false, true≢false, ◌&&◌, Option, None, Some, Result, Ok, Err, IfOk, if◌then◌else◌}
use Rattle.tree_data.specs.declared.statements.Lead as code
use Rattle.tree_data.specs.declared.statements.Stmt.{Stmt}
use Rattle.tree_data.specs.Seen.{tree_of}
use Rattle.tree_data.specs.Stated.{lead_of, stmt_of}
use Rattle.tree_data.specs.Statements.{Statement, Statement_of, Core, Block_of, Expression_of, Goto_of, Continue_of, Break_of, Return_of, Do_of, Lead, Label_of, Case_of, Default_label_of, If_of, If_else_of, Switch_of, While_of, For_of, For_declaring_of, Leads, No_leads, Lead_then, Stated_of, is_closed, takes_no_else}
use Rattle.c_parser.specs.declared.answers.Stop.{Stop}
use Rattle.c_parser.specs.declared.kinds.Kind.{Kind}
use Rattle.c_parser.specs.declared.kinds.Kind.TheVariants.{Identifier, TypeName, Semicolon, Case, Default, If, Switch, While, For, Do, Return}
use Rattle.c_parser.specs.Kinds.{is_word}
use Rattle.c_parser.specs.Parts.{PartsLaw}
use Rattle.c_parser.specs.Words.{Words, kind_in}
use Rattle.stmt_parser.specs.declared.frames.Opener.{Opener}
use Rattle.stmt_parser.specs.declared.frames.Opener.TheVariants as opener
use Rattle.stmt_parser.specs.declared.frames.Progress.{Progress}
use Rattle.stmt_parser.specs.declared.frames.Progress.TheVariants as progress
use Rattle.stmt_parser.specs.declared.steps.Step.{Step}
use Rattle.stmt_parser.specs.declared.steps.Step.TheVariants.{Led, Opened, Whole}
use Rattle.stmt_parser.specs.Bodies.{is_braced, is_block}
use Rattle.stmt_parser.specs.Found.{FoundLead, FoundStatement}
use Rattle.stmt_parser.specs.InForce.{inside, all_inside, is_label, past_led, past_item}
use Rattle.stmt_parser.specs.Reading.{HoldsStatement, HoldsCore, HoldsLead, HoldLeads, Ends}
use Rattle.stmt_parser.specs.Steps.{FoundStep, FoundOpener, behind_step, begins_label, told, outer_of, GoesOn}
use Rattle.stmt_parser.proofs.Marks.{code_of, coded, start_code}
use Rattle.stmt_parser.proofs.OneReading.{lead_coded, core_apart, lead_only, Likewise, alike, without, Rest, ends_inside, no_else_first, statement_only}

-- what begins with a keyword of its own, but for `case`, `default` and `return`, declares nothing behind it
core_still : PartsLaw → (w : Words) → (c : Core) → (a b : ℕ) → HoldsCore w c a b → (n : ℕ) → code_of (kind_in w a) ≡ n → 4 ≤ n → (n ≡ 8 → ⊥)
    → (n ≡ 12 → ⊥) → past_item w (Stated_of (Statement_of No_leads c)) ≡ w
core_still law w (Block_of o is c) a b h n k four u v = refl
core_still law w (Expression_of None m) a b h n k four u v =
    let here : code_of (kind_in w a) ≡ 8 = ap (λ i. code_of (kind_in w i)) (sym h.0) ∙ coded w m Semicolon h.1 in
    absurd (u (sym k ∙ here))
core_still law w (Expression_of (Some t) m) a b h n k four u v =
    let low : code_of (kind_in w a) ≤ 1 = start_code (kind_in w a) (law.expression_starts w 1 t a m h.0) in
    absurd (omega (arith, low, k, four))
core_still law w (Goto_of i j m) a b h n k four u v = refl
core_still law w (Continue_of i m) a b h n k four u v = refl
core_still law w (Break_of i m) a b h n k four u v = refl
core_still law w (Return_of i e m) a b h n k four u v = absurd (v (sym k ∙ coded w a Return h.1))
core_still law w (Do_of i s j o t c m) a b h n k four u v = refl

still : PartsLaw → (w : Words) → (s : Statement) → (a b : ℕ) → HoldsStatement w s a b → (n : ℕ) → code_of (kind_in w a) ≡ n → 4 ≤ n → (n ≡ 8 → ⊥)
    → (n ≡ 12 → ⊥) → past_item w (Stated_of s) ≡ w
still law w (Statement_of No_leads c) a b h n k four u v = core_still law w c a b (subst (λ i. HoldsCore w c i b) h.1 h.2) n k four u v
still law w (Statement_of (Lead_then (Label_of x y) ls) c) a b h n k four u v =
    let low : code_of (kind_in w a) ≡ 1 = lead_coded w (Label_of x y) a h.1.0 h.1.1 in
    absurd (omega (arith, low, k, four))
still law w (Statement_of (Lead_then (Case_of x t y) ls) c) a b h n k four u v =
    let low : code_of (kind_in w a) ≡ 2 = lead_coded w (Case_of x t y) a h.1.0 h.1.1 in
    absurd (omega (arith, low, k, four))
still law w (Statement_of (Lead_then (Default_label_of x y) ls) c) a b h n k four u v =
    let low : code_of (kind_in w a) ≡ 3 = lead_coded w (Default_label_of x y) a h.1.0 h.1.1 in
    absurd (omega (arith, low, k, four))
still law w (Statement_of (Lead_then (If_of x o t y) ls) c) a b h n k four u v = refl
still law w (Statement_of (Lead_then (If_else_of x o t y s e) ls) c) a b h n k four u v = refl
still law w (Statement_of (Lead_then (Switch_of x o t y) ls) c) a b h n k four u v = refl
still law w (Statement_of (Lead_then (While_of x o t y) ls) c) a b h n k four u v = refl
still law w (Statement_of (Lead_then (For_of i o x m y j z p) ls) c) a b h n k four u v = refl
still law w (Statement_of (Lead_then (For_declaring_of i o d y j z p) ls) c) a b h n k four u v = refl

-- a block declares nothing behind it
core_block : (w : Words) → (c : Core) → is_braced c ≡ true → w ≡ past_item w (Stated_of (Statement_of No_leads c))
core_block w (Block_of o is c) h = refl
core_block w (Expression_of e m) h = absurd (true≢false (sym h))
core_block w (Goto_of k n m) h = absurd (true≢false (sym h))
core_block w (Continue_of k m) h = absurd (true≢false (sym h))
core_block w (Break_of k m) h = absurd (true≢false (sym h))
core_block w (Return_of k e m) h = absurd (true≢false (sym h))
core_block w (Do_of k s v o t c m) h = absurd (true≢false (sym h))

pub block_past : (w : Words) → (s : Statement) → is_block s ≡ true → w ≡ past_item w (Stated_of s)
block_past w (Statement_of No_leads c) h = core_block w c h
block_past w (Statement_of (Lead_then l ls) c) h = absurd (true≢false (sym h))

-- behind labels the rest of a statement tells
pub record Labelled (w v : Words) (place b : ℕ) (s : Statement) : Type 0 where
  pub rest : Statement
  pub reads : HoldsStatement v rest place b
  pub ends : Ends v rest b
  pub past : past_item w (Stated_of s) ≡ past_item v (Stated_of rest)

label_past : (v : Words) → (x : Lead) → (xs : Leads) → (c : Core) → is_label x ≡ true → past_led v (Lead_then x xs) c ≡ past_led (inside v x) xs c
label_past v x xs c h = ap (λ t. if t then past_led (inside v x) xs c else v) h

labelled : PartsLaw → (v : Words) → (place : ℕ) → (l : Lead) → (next : ℕ) → HoldsLead v l place next → takes_no_else l ≡ true → is_label l ≡ true
    → (b : ℕ) → (s : Statement) → HoldsStatement v s place b → Ends v s b → Labelled v (inside v l) next b s
labelled law v place l next h alone label b = from
  where
    by_likeness : (x : Lead) → (xs : Leads) → (c : Core) → (n m : ℕ) → HoldLeads (inside v x) xs n m → HoldsCore (all_inside (inside v x) xs) c m b
        → Ends v (Statement_of (Lead_then x xs) c) b → Likewise v l x next n → Labelled v (inside v l) next b (Statement_of (Lead_then x xs) c)
    by_likeness x xs c n m hs hc ends (alike p q) =
        subst (λ y. Labelled v (inside v y) next b (Statement_of (Lead_then x xs) c)) (sym p)
        (subst (λ i. Labelled v (inside v x) i b (Statement_of (Lead_then x xs) c)) (sym q)
        (record {
          rest = Statement_of xs c;
          reads = (m, hs, hc);
          ends = ends_inside law v x xs c b ends;
          past = label_past v x xs c (ap is_label (sym p) ∙ label);
        }))
    by_likeness x xs c n m hs hc ends (without s e t hold closed els) = absurd (true≢false (sym alone ∙ t))

    from : (s : Statement) → HoldsStatement v s place b → Ends v s b → Labelled v (inside v l) next b s
    from (Statement_of No_leads c) g ends =
        absurd (core_apart law v c place b (subst (λ i. HoldsCore v c i b) g.1 g.2) l next h)
    from (Statement_of (Lead_then x xs) c) g ends =
        let behind : Rest v x g.1.0 = record {
          rest = Statement_of xs c;
          end = b;
          reads = (g.0, g.1.2, g.2);
          no_else = λ t. ends (no_else_first x xs t);
        } in
        by_likeness x xs c g.1.0 g.0 g.1.2 g.2 ends (lead_only law l v place next h x g.1.0 g.1.1 behind)

-- what is known behind a statement from a on of which `place` was reached
abbrev pub Outside : Words → ℕ → Words → ℕ → Option Words → Type 0
Outside w a v place None = (s : Statement) → (b : ℕ) → HoldsStatement w s a b → Ends w s b → Labelled w v place b s
Outside w a v place (Some u) = (s : Statement) → (b : ℕ) → HoldsStatement w s a b → Ends w s b → past_item w (Stated_of s) ≡ u

outside_starts : (w : Words) → (a : ℕ) → Outside w a w a None
outside_starts w a s b h e = record { rest = s; reads = h; ends = e; past = refl }

pub outside_begins : (w v : Words) → v ≡ w → (a : ℕ) → (o : Option Words) → o ≡ None → Outside w a v a o
outside_begins w v e a o none =
    subst (λ x. Outside w a v a x) (sym none) (subst (λ x. Outside w a x a None) (sym e) (outside_starts w a))

-- what a lead begins with
word_begins_label : (k : Kind) → is_word k ≡ true → begins_label k ≡ true
word_begins_label Identifier h = refl
word_begins_label (TypeName n) h = refl
word_begins_label _ h = absurd (true≢false (sym h))

lead_begins : (w : Words) → (l : Lead) → (a b : ℕ) → HoldsLead w l a b → begins_label (kind_in w a) ≡ is_label l
lead_begins w (Label_of n c) a b h = word_begins_label (kind_in w a) h.1
lead_begins w (Case_of k t c) a b h = ap begins_label h.1
lead_begins w (Default_label_of k c) a b h = ap begins_label h.1
lead_begins w (If_of k o t c) a b h = ap begins_label h.1
lead_begins w (If_else_of k o t c s e) a b h = ap begins_label h.2
lead_begins w (Switch_of k o t c) a b h = ap begins_label h.1
lead_begins w (While_of k o t c) a b h = ap begins_label h.1
lead_begins w (For_of k o x m y n z c) a b h = ap begins_label h.1
lead_begins w (For_declaring_of k o d y n z c) a b h = ap begins_label h.2

-- where a lead that is no label, or what awaits a statement, stands
abbrev Unlabelled : Words → ℕ → Type 0
Unlabelled v place = (s : Statement) → (b : ℕ) → HoldsStatement v s place b → past_item v (Stated_of s) ≡ v

unlabelled_lead : PartsLaw → (v : Words) → (place : ℕ) → (l : Lead) → (next : ℕ) → HoldsLead v l place next → is_label l ≡ false → Unlabelled v place
unlabelled_lead law v place (Label_of n c) next h u s b g = absurd (true≢false u)
unlabelled_lead law v place (Case_of k t c) next h u s b g = absurd (true≢false u)
unlabelled_lead law v place (Default_label_of k c) next h u s b g = absurd (true≢false u)
unlabelled_lead law v place (If_of k o t c) next h u s b g =
    still law v s place b g 4 (coded v place If h.1) (omega arith) (λ e. omega (arith, e)) (λ e. omega (arith, e))
unlabelled_lead law v place (If_else_of k o t c x e) next h u s b g =
    still law v s place b g 4 (coded v place If h.2) (omega arith) (λ e. omega (arith, e)) (λ e. omega (arith, e))
unlabelled_lead law v place (Switch_of k o t c) next h u s b g =
    still law v s place b g 5 (coded v place Switch h.1) (omega arith) (λ e. omega (arith, e)) (λ e. omega (arith, e))
unlabelled_lead law v place (While_of k o t c) next h u s b g =
    still law v s place b g 6 (coded v place While h.1) (omega arith) (λ e. omega (arith, e)) (λ e. omega (arith, e))
unlabelled_lead law v place (For_of k o x m y n z c) next h u s b g =
    still law v s place b g 7 (coded v place For h.1) (omega arith) (λ e. omega (arith, e)) (λ e. omega (arith, e))
unlabelled_lead law v place (For_declaring_of k o d y n z c) next h u s b g =
    still law v s place b g 7 (coded v place For h.2) (omega arith) (λ e. omega (arith, e)) (λ e. omega (arith, e))

-- one more step
told_lead : PartsLaw → (w : Words) → (a : ℕ) → (v : Words) → (place : ℕ) → Outside w a v place None → (l : Lead) → (next : ℕ) → FoundLead v place l next
    → (j : Words) → j ≡ inside v l → (y : Bool) → y ≡ is_label l → Outside w a j next (if y then None else Some v)
told_lead law w a v place o l next f j is true e = λ s b h n.
    let r = o s b h n in
    let more = labelled law v place l next f.reads f.alone (sym e) b r.rest r.reads r.ends in
    subst (λ x. Labelled w x next b s) (sym is) (record { rest = more.rest; reads = more.reads; ends = more.ends; past = r.past ∙ more.past })
told_lead law w a v place o l next f j is false e = λ s b h n.
    let r = o s b h n in
    r.past ∙ unlabelled_lead law v place l next f.reads (sym e) r.rest b r.reads

told_opener : PartsLaw → (w : Words) → (a : ℕ) → (v : Words) → (place : ℕ) → Outside w a v place None → Unlabelled v place → (j : Words) → (end : ℕ)
    → Outside w a j end (Some v)
told_opener law w a v place o u j end s b h n =
    let r = o s b h n in
    r.past ∙ u r.rest b r.reads

told_whole : PartsLaw → (w : Words) → (a : ℕ) → (v : Words) → (place : ℕ) → Outside w a v place None → (x : Statement) → (next : ℕ)
    → FoundStatement v place x next → (u : Words) → u ≡ past_item v (Stated_of x) → (j : Words) → (end : ℕ) → Outside w a j end (Some u)
told_whole law w a v place o x next f u is j end s b h n =
    let r = o s b h n in
    let same = statement_only law x v place next f.reads f.ends r.rest b r.reads r.ends in
    r.past ∙ ap (λ y. past_item v (Stated_of y)) (sym same.0) ∙ sym is

-- with what was read at `place`, and where it goes on; a whole statement goes on nowhere
abbrev On : Step → Words → ℕ → Words → ℕ → Type 0
On (Led l) u next j end = (j ≡ u) × (end ≡ next)
On (Opened o) u next j end = Unit {0}
On (Whole s) u next j end = Unit {0}

on_itself : (step : Step) → (u : Words) → (next : ℕ) → On step u next u next
on_itself (Led l) u next = (refl, refl)
on_itself (Opened o) u next = tt
on_itself (Whole s) u next = tt

-- frames and leads reach a place under these identifiers
abbrev pub Reaches : Progress → Words → ℕ → Type 0
Reaches (progress.Whole s b) j end = ⊥
Reaches (progress.Goes fs ls v b) j end = (j ≡ v) × (end ≡ b)

goes_to : (step : Step) → (u : Words) → (next : ℕ) → (p : Progress) → GoesOn step u next p → (j : Words) → (end : ℕ) → Reaches p j end
    → On step u next j end
goes_to (Led l) u next (progress.Whole s b) g j end r = absurd r
goes_to (Led l) u next (progress.Goes fs ls v b) g j end r = (r.0 ∙ g.0, r.1 ∙ g.1)
goes_to (Opened o) u next p g j end r = tt
goes_to (Whole s) u next p g j end r = tt

pub led_on : (step : Step) → (l : code.Lead) → step ≡ Led l → (u : Words) → (next : ℕ) → (p : Progress) → GoesOn (Led l) u next p → GoesOn step u next p
led_on step l is u next p g = subst (λ s. GoesOn s u next p) (sym is) g

pub opened_on : (step : Step) → (o : Opener) → step ≡ Opened o → (u : Words) → (next : ℕ) → (p : Progress) → GoesOn step u next p
opened_on step o is u next p = subst (λ s. GoesOn s u next p) (sym is) tt

pub whole_on : (step : Step) → (x : Stmt) → step ≡ Whole x → (u : Words) → (next : ℕ) → (r : Result Progress Stop) → IfOk r (GoesOn step u next)
whole_on step x is u next (Ok p) = subst (λ s. GoesOn s u next p) (sym is) tt
whole_on step x is u next (Err e) = tt

told_on : PartsLaw → (w : Words) → (a : ℕ) → (v : Words) → (place : ℕ) → Outside w a v place None → (step : Step) → (next : ℕ) → FoundStep v place step next
    → (u : Words) → u ≡ behind_step v step → (j : Words) → (end : ℕ) → On step u next j end → Outside w a j end (told v place step u)
told_on law w a v place o (Led l) next f u is j end to =
    subst (λ i. Outside w a j i (told v place (Led l) u)) (sym to.1)
    (subst (λ x. Outside w a x next (told v place (Led l) u)) (sym to.0)
    (told_lead law w a v place o (lead_of l) next f u is (begins_label (kind_in v place)) (lead_begins v (lead_of l) place next f.reads)))
told_on law w a v place o (Opened (opener.If t c)) next f u is j end to =
    told_opener law w a v place o
    (λ s b g. still law v s place b g 4 (coded v place If f.opens.0) (omega arith) (λ e. omega (arith, e)) (λ e. omega (arith, e))) j end
told_on law w a v place o (Opened opener.Do) next f u is j end to =
    told_opener law w a v place o
    (λ s b g. still law v s place b g 13 (coded v place Do f.opens) (omega arith) (λ e. omega (arith, e)) (λ e. omega (arith, e))) j end
told_on law w a v place o (Whole s) next f u is j end to = told_whole law w a v place o (stmt_of s) next f u is j end

outer_on : PartsLaw → (w : Words) → (a : ℕ) → (v : Words) → (place : ℕ) → (o : Option Words) → Outside w a v place o → (step : Step) → (next : ℕ)
    → FoundStep v place step next → (u : Words) → u ≡ behind_step v step → (j : Words) → (end : ℕ) → On step u next j end
    → Outside w a j end (outer_of o (told v place step u))
outer_on law w a v place (Some x) o step next f u is j end to = o
outer_on law w a v place None o step next f u is j end to = told_on law w a v place o step next f u is j end to

pub outside_goes : PartsLaw → (w : Words) → (a : ℕ) → (v : Words) → (place : ℕ) → (o : Option Words) → Outside w a v place o → (v' : Words) → v' ≡ v
    → (step : Step) → (next : ℕ) → FoundStep v place step next → (u : Words) → u ≡ behind_step v step → (known : Option Words)
    → known ≡ outer_of o (told v' place step u) → (p : Progress) → GoesOn step u next p → (j : Words) → (end : ℕ) → Reaches p j end
    → Outside w a j end known
outside_goes law w a v place o h v' same step next f u is known e p g j end r =
    subst (λ x. Outside w a j end x) (sym (e ∙ ap (λ y. outer_of o (told y place step u)) same))
    (outer_on law w a v place o h step next f u is j end (goes_to step u next p g j end r))

-- a statement that is read
pub outside_ends : PartsLaw → (w : Words) → (a : ℕ) → (v : Words) → (place : ℕ) → (o : Option Words) → Outside w a v place o → (v' : Words) → v' ≡ v
    → (step : Step) → (next : ℕ) → FoundStep v place step next → (u : Words) → u ≡ behind_step v step → (known : Option Words)
    → known ≡ outer_of o (told v' place step u) → (last : Words) → known ≡ Some last → (s : Statement) → (b : ℕ) → FoundStatement w a s b
    → last ≡ past_item w (Stated_of s)
outside_ends law w a v place o h v' same step next f u is known e last found s b x =
    let so : Outside w a u next (Some last) =
    subst (λ y. Outside w a u next y) (sym (e ∙ ap (λ y. outer_of o (told y place step u)) same) ∙ found)
    (outer_on law w a v place o h step next f u is u next (on_itself step u next)) in
    sym (so s b x.reads x.ends)

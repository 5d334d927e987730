-- Statements that are read up to a place, as the parser keeps them.
use Rattle.std.proofs.Common.{◌≡◌, refl, ap, sym, ◌∙◌, subst, ℕ, ◌+◌, ◌<◌, ◌≤◌, length, List, [], ◌∷◌, ◌++◌, reverse, take, arith}
use Rattle.std.proofs.Math.Seq.{take-append_seam}
use Rattle.std.proofs.lemmas.List.{reverse-append}
use Rattle.tree_data.specs.declared.statements.Lead as code
use Rattle.tree_data.specs.Seen.{tree_of}
use Rattle.tree_data.specs.Stated.{lead_of, leads_of}
use Rattle.tree_data.specs.Statements.{Statement, Statement_of, Lead, If_of, If_else_of, Leads, Lead_then, leads, led}
use Rattle.tree_data.specs.Trees.{Tree}
use Rattle.c_parser.specs.declared.answers.Stop.{Stop}
use Rattle.c_parser.specs.declared.kinds.Kind.TheVariants.{If, Else}
use Rattle.c_parser.specs.Parts.{PartsLaw, past_tree}
use Rattle.c_parser.specs.Reading.{Holds}
use Rattle.c_parser.specs.Words.{Words, shown_from, kind_in}
use Rattle.stmt_parser.specs.declared.frames.Opener.{Opener}
use Rattle.stmt_parser.specs.declared.frames.Opener.TheVariants as opener
use Rattle.stmt_parser.specs.declared.frames.Frame.{Frame}
use Rattle.stmt_parser.specs.Found.{FoundTest, FoundLead, FoundStatement, FailsStatement}
use Rattle.stmt_parser.specs.Frames.{Leading, Opens, behind_opener, inside_opener, Stacked, Pending, Awaited, led_back}
use Rattle.stmt_parser.specs.InForce.{inside}
use Rattle.stmt_parser.specs.Reading.{HoldsTest}
use Rattle.stmt_parser.specs.Steps.{FoundOpener}
use Rattle.stmt_parser.proofs.CoresRead.{do_unbegun}
use Rattle.stmt_parser.proofs.PartsOnly.{test_only}
use Rattle.stmt_parser.proofs.PartsRead.{test_expression}
use Rattle.stmt_parser.proofs.StatementsRead.{mapped, if_unchosen, if_alone_found, if_else_found, leading_begins, leading_turns, leading_fails, leading_ends}

-- what stands in front, in either order
leads_more : (xs : List Lead) → (l : Lead) → (more : Leads) → leads (xs ++ l ∷ []) more ≡ leads xs (Lead_then l more)
leads_more [] l more = refl
leads_more (x ∷ xs) l more = ap (λ y. Lead_then x y) (leads_more xs l more)

led_more : (xs : List Lead) → (l : Lead) → (s : Statement) → led (xs ++ l ∷ []) s ≡ led xs (led (l ∷ []) s)
led_more xs l (Statement_of more c) = ap (λ y. Statement_of y c) (leads_more xs l more)

pub led_none : (s : Statement) → led [] s ≡ s
led_none (Statement_of more c) = refl

pub back_more : (ls : List Lead) → (l : Lead) → (s : Statement) → led_back (ls ++ l ∷ []) s ≡ led (l ∷ []) (led_back ls s)
back_more [] l s = refl
back_more (x ∷ ls) l s = back_more ls l (led (x ∷ []) s)

pub back_pushed : (bs cs : List code.Lead) → (l : code.Lead) → cs ≡ bs ++ l ∷ [] → (s : Statement)
    → led_back (leads_of cs) s ≡ led (lead_of l ∷ []) (led_back (leads_of bs) s)
back_pushed bs cs l e s = ap (λ y. led_back (leads_of y) s) e ∙ ap (λ y. led_back y s) (mapped lead_of bs l) ∙ back_more (leads_of bs) (lead_of l) s

-- what is written back to a list as long as it is
pub written_back : {A : Type 0} → (n : ℕ) → (xs ys : List A) → length xs ≡ n → take n (xs ++ ys) ≡ xs
written_back n xs ys e = ap (λ i. take i (xs ++ ys)) (sym e) ∙ take-append_seam xs ys

pub back_reversed : (ls : List code.Lead) → (s : Statement) → led (leads_of (reverse ls)) s ≡ led_back (leads_of ls) s
back_reversed [] s = led_none s
back_reversed (l ∷ ls) s =
    ap (λ y. led (leads_of y) s) (reverse-append (l ∷ []) ls)
    ∙ ap (λ y. led y s) (mapped lead_of (reverse ls) l)
    ∙ led_more (leads_of (reverse ls)) (lead_of l) s
    ∙ back_reversed ls (led (lead_of l ∷ []) s)

-- one more is turned
pub one_turned : (xs ys bs cs : List code.Lead) → (l : code.Lead) → xs ≡ ys ++ l ∷ [] → cs ≡ bs ++ l ∷ [] → (s : Statement)
    → led (leads_of ys) (led_back (leads_of cs) s) ≡ led (leads_of xs) (led_back (leads_of bs) s)
one_turned xs ys bs cs l p q s =
    ap (λ y. led (leads_of ys) y) (back_pushed bs cs l q s)
    ∙ sym (led_more (leads_of ys) (lead_of l) (led_back (leads_of bs) s))
    ∙ sym (ap (λ y. led y (led_back (leads_of bs) s)) (ap leads_of p ∙ mapped lead_of ys l))

-- where the statement begins that `if ( expression )` awaits
pub opened_inside : (w s : Words) → s ≡ w → (at : ℕ) → (t : Tree) → (c : ℕ) → FoundTest w (at + 1) t c → (v : Words)
    → ((u : Tree) → Holds (shown_from s (at + 2)) u (at + 2) c → v ≡ past_tree s u) → v ≡ past_tree w t
opened_inside w s e at t c f v past =
    past t (subst (λ x. Holds (shown_from x (at + 2)) t (at + 2) c) (sym e) (test_expression w at t c f)) ∙ ap (λ x. past_tree x t) e

-- frames
opener_forth : (w : Words) → (a : ℕ) → (o : Opener) → Opens w a o → a < behind_opener a o
opener_forth w a (opener.If t c) h =
    let far : a + 1 < c = h.1.forth in
    omega (arith, far)
opener_forth w a opener.Do h = omega arith

opener_kinds : PartsLaw → (w : Words) → (o : Opener) → (inside_opener w o).kinds ≡ w.kinds
opener_kinds law w (opener.If t c) = law.tree_kinds w (tree_of t)
opener_kinds law w opener.Do = refl

pub stacked_kinds : PartsLaw → (fs : List Frame) → (w : Words) → (a : ℕ) → (v : Words) → (b : ℕ) → Stacked w a fs v b → v.kinds ≡ w.kinds
stacked_kinds law [] w a v b h = ap (λ x. x.kinds) h.0
stacked_kinds law (f ∷ fs) w a v b h =
    stacked_kinds law fs (inside_opener f.scope f.opener) (behind_opener f.at f.opener) v b h.2 ∙ opener_kinds law f.scope f.opener ∙ h.0.kinds

pub stacked_forth : (fs : List Frame) → (w : Words) → (a : ℕ) → (v : Words) → (b : ℕ) → Stacked w a fs v b → a ≤ b
stacked_forth [] w a v b h = omega (arith, h.1)
stacked_forth (f ∷ fs) w a v b h =
    let first : a ≤ f.at = h.0.forth in
    let second : f.at < behind_opener f.at f.opener = opener_forth f.scope f.at f.opener h.1 in
    let third : behind_opener f.at f.opener ≤ b = stacked_forth fs (inside_opener f.scope f.opener) (behind_opener f.at f.opener) v b h.2 in
    omega (arith, first, second, third)

stacked_more : (fs : List Frame) → (f : Frame) → (w : Words) → (a : ℕ) → (v : Words) → (b : ℕ) → Stacked w a fs v b
    → Leading v b (leads_of f.leads.items) f.scope f.at → Opens f.scope f.at f.opener
    → Stacked w a (fs ++ f ∷ []) (inside_opener f.scope f.opener) (behind_opener f.at f.opener)
stacked_more [] f w a v b h g o = (
  subst (λ x. Leading x a (leads_of f.leads.items) f.scope f.at) h.0 (subst (λ i. Leading v i (leads_of f.leads.items) f.scope f.at) h.1 g),
  o,
  (refl, refl),
)
stacked_more (x ∷ fs) f w a v b h g o = (h.0, h.1, stacked_more fs f (inside_opener x.scope x.opener) (behind_opener x.at x.opener) v b h.2 g o)

-- the last frame, and the others
record Last (w : Words) (a : ℕ) (fs : List Frame) (f : Frame) (v : Words) (b : ℕ) : Type 0 where
  pub base : Words
  pub start : ℕ
  pub stacked : Stacked w a fs base start
  pub leading : Leading base start (leads_of f.leads.items) f.scope f.at
  pub opens : Opens f.scope f.at f.opener
  pub scope : v ≡ inside_opener f.scope f.opener
  pub place : b ≡ behind_opener f.at f.opener

stacked_less : (fs : List Frame) → (f : Frame) → (w : Words) → (a : ℕ) → (v : Words) → (b : ℕ) → Stacked w a (fs ++ f ∷ []) v b
    → Last w a fs f v b
stacked_less [] f w a v b h = record {
  base = w;
  start = a;
  stacked = (refl, refl);
  leading = h.0;
  opens = h.1;
  scope = h.2.0;
  place = h.2.1;
}
stacked_less (x ∷ fs) f w a v b h =
    let r = stacked_less fs f (inside_opener x.scope x.opener) (behind_opener x.at x.opener) v b h.2 in
    record {
      base = r.base;
      start = r.start;
      stacked = (h.0, h.1, r.stacked);
      leading = r.leading;
      opens = r.opens;
      scope = r.scope;
      place = r.place;
    }

-- where none stands behind a frame none stands at its front
found_only : PartsLaw → (w : Words) → (a : ℕ) → (t : Tree) → (c : ℕ) → FoundTest w a t c → (o : ℕ) → (u : Tree) → (d b : ℕ) → HoldsTest w o u d a b
    → (t ≡ u) × (c ≡ d)
found_only law w a t c f o u d b h =
    let r = test_only law w a t c a (c + 1) f.reads o u d b h in
    (r.1, r.2)

opener_fails : PartsLaw → (w : Words) → (a : ℕ) → (o : Opener) → Opens w a o → (e : Stop)
    → FailsStatement (inside_opener w o) (behind_opener a o) e → FailsStatement w a e
opener_fails law w a (opener.If t c) h e f =
    if_unchosen law w a h.0 (tree_of t) c (found_only law w (a + 1) (tree_of t) c h.1) e f
opener_fails law w a opener.Do h e f = do_unbegun law w a h e f

stacked_fails : PartsLaw → (fs : List Frame) → (w : Words) → (a : ℕ) → (v : Words) → (b : ℕ) → Stacked w a fs v b → (e : Stop)
    → FailsStatement v b e → FailsStatement w a e
stacked_fails law [] w a v b h e f = subst (λ x. FailsStatement x a e) h.0 (subst (λ i. FailsStatement v i e) h.1 f)
stacked_fails law (x ∷ fs) w a v b h e f =
    leading_fails w a (leads_of x.leads.items) x.scope x.at h.0 e
    (opener_fails law x.scope x.at x.opener h.1 e
    (stacked_fails law fs (inside_opener x.scope x.opener) (behind_opener x.at x.opener) v b h.2 e f))

pub pending_fails : PartsLaw → (w : Words) → (a : ℕ) → (fs : List Frame) → (xs : List Lead) → (v : Words) → (place : ℕ)
    → Pending w a fs xs v place → (e : Stop) → FailsStatement v place e → FailsStatement w a e
pending_fails law w a fs xs v place h e f =
    stacked_fails law fs w a h.base h.start h.stacked e (leading_fails h.base h.start xs v place h.leading e f)

-- leads behind frames
pending : PartsLaw → (w : Words) → (a : ℕ) → (fs : List Frame) → (xs : List Lead) → (v : Words) → (place : ℕ) → (u : Words) → (b : ℕ) → Stacked w a fs u b
    → Leading u b xs v place → Pending w a fs xs v place
pending law w a fs xs v place u b h g =
    let kinds : u.kinds ≡ w.kinds = stacked_kinds law fs w a u b h in
    let first : a ≤ b = stacked_forth fs w a u b h in
    let second : b ≤ place = g.forth in
    let room : place ≤ length u.kinds = g.within in
    let same : length u.kinds ≡ length w.kinds = ap length kinds in
    record {
      base = u;
      start = b;
      stacked = h;
      leading = g;
      kinds = g.kinds ∙ kinds;
      forth = omega (arith, first, second);
      within = omega (arith, room, same);
    }

pub pending_begins : PartsLaw → (w v : Words) → v ≡ w → (a : ℕ) → a ≤ length w.kinds → (fs : List Frame) → fs ≡ [] → (xs : List Lead) → xs ≡ []
    → Pending w a fs xs v a
pending_begins law w v e a le fs none xs nothing =
    subst (λ gs. Pending w a gs xs v a) (sym none) (pending law w a [] xs v a w a (refl, refl) (leading_begins w v e a le xs nothing))

pub pending_led : PartsLaw → (w : Words) → (a : ℕ) → (fs : List Frame) → (xs : List Lead) → (v : Words) → (place : ℕ) → Pending w a fs xs v place
    → (l : Lead) → (next : ℕ) → FoundLead v place l next → (u : Words) → u ≡ inside v l → (ys : List Lead) → ys ≡ xs ++ l ∷ []
    → Pending w a fs ys u next
pending_led law w a fs xs v place h l next f u past ys e =
    pending law w a fs ys u next h.base h.start h.stacked (leading_turns law h.base h.start xs v place h.leading l next f u past ys e)

pub pending_opened : PartsLaw → (w : Words) → (a : ℕ) → (fs : List Frame) → (v : Words) → (place : ℕ) → (f : Frame) → (u : Words)
    → Pending w a fs (leads_of f.leads.items) v place → (next : ℕ) → FoundOpener v place f.opener next → f.scope ≡ v
    → u ≡ inside_opener f.scope f.opener → f.at ≡ place → (gs : List Frame) → gs ≡ fs ++ f ∷ [] → (xs : List Lead) → xs ≡ []
    → Pending w a gs xs u next
pending_opened law w a fs v place f u h next o scope inner at gs e xs none =
    let here : v ≡ f.scope = sym scope in
    let leading : Leading h.base h.start (leads_of f.leads.items) f.scope f.at =
    subst (λ i. Leading h.base h.start (leads_of f.leads.items) f.scope i) (sym at)
    (subst (λ x. Leading h.base h.start (leads_of f.leads.items) x place) here h.leading) in
    let opens : Opens f.scope f.at f.opener =
    subst (λ i. Opens f.scope i f.opener) (sym at) (subst (λ x. Opens x place f.opener) here o.opens) in
    let behind : behind_opener f.at f.opener ≡ next = ap (λ i. behind_opener i f.opener) at ∙ sym o.behind in
    let base : Words = inside_opener f.scope f.opener in
    let room : next ≤ length base.kinds =
    subst (λ ks. next ≤ length ks) (sym (opener_kinds law f.scope f.opener)) (subst (λ x. next ≤ length x.kinds) here o.inside) in
    subst (λ ys. Pending w a ys xs u next) (sym e)
    (pending law w a (fs ++ f ∷ []) xs u next base next
    (subst (λ i. Stacked w a (fs ++ f ∷ []) base i) behind (stacked_more fs f w a h.base h.start h.stacked leading opens))
    (leading_begins base u inner next room xs none))

pub pending_whole : PartsLaw → (w : Words) → (a : ℕ) → (fs : List Frame) → (xs : List Lead) → (v : Words) → (place : ℕ) → Pending w a fs xs v place
    → (s : Statement) → (b : ℕ) → FoundStatement v place s b → Awaited w a fs (led xs s) b
pending_whole law w a fs xs v place h s b f = record {
  base = h.base;
  start = h.start;
  stacked = h.stacked;
  found = leading_ends law h.base h.start xs v place h.leading s b f;
}

-- a statement behind frames
pub awaited_as : (w : Words) → (a : ℕ) → (fs : List Frame) → (s u : Statement) → (b : ℕ) → u ≡ s → Awaited w a fs s b → Awaited w a fs u b
awaited_as w a fs s u b e h = subst (λ x. Awaited w a fs x b) (sym e) h

pub awaited_ends : (w : Words) → (a : ℕ) → (fs : List Frame) → fs ≡ [] → (s : Statement) → (b : ℕ) → Awaited w a fs s b → FoundStatement w a s b
awaited_ends w a fs none s b h =
    let base : Stacked w a [] h.base h.start = subst (λ gs. Stacked w a gs h.base h.start) none h.stacked in
    subst (λ x. FoundStatement x a s b) base.0 (subst (λ i. FoundStatement h.base i s b) base.1 h.found)

pub record Freed (w : Words) (a : ℕ) (fs : List Frame) (f : Frame) (s : Statement) (b : ℕ) : Type 0 where
  pub base : Words
  pub start : ℕ
  pub stacked : Stacked w a fs base start
  pub leading : Leading base start (leads_of f.leads.items) f.scope f.at
  pub opens : Opens f.scope f.at f.opener
  pub found : FoundStatement (inside_opener f.scope f.opener) (behind_opener f.at f.opener) s b
  pub kinds : f.scope.kinds ≡ w.kinds

pub awaited_less : PartsLaw → (w : Words) → (a : ℕ) → (fs gs : List Frame) → (f : Frame) → gs ≡ fs ++ f ∷ [] → (s : Statement) → (b : ℕ) → Awaited w a gs s b
    → Freed w a fs f s b
awaited_less law w a fs gs f e s b h =
    let r : Last w a fs f h.base h.start = stacked_less fs f w a h.base h.start (subst (λ ys. Stacked w a ys h.base h.start) e h.stacked) in
    record {
      base = r.base;
      start = r.start;
      stacked = r.stacked;
      leading = r.leading;
      opens = r.opens;
      found = subst (λ x. FoundStatement x (behind_opener f.at f.opener) s b) r.scope (subst (λ i. FoundStatement h.base i s b) r.place h.found);
      kinds = r.leading.kinds ∙ stacked_kinds law fs w a r.base r.start r.stacked;
    }

pub freed_fails : PartsLaw → (w : Words) → (a : ℕ) → (fs : List Frame) → (f : Frame) → (s : Statement) → (b : ℕ) → Freed w a fs f s b → (e : Stop)
    → FailsStatement f.scope f.at e → FailsStatement w a e
freed_fails law w a fs f s b h e g =
    stacked_fails law fs w a h.base h.start h.stacked e
    (leading_fails h.base h.start (leads_of f.leads.items) f.scope f.at h.leading e g)

pub freed_whole : (w : Words) → (a : ℕ) → (fs : List Frame) → (f : Frame) → (s : Statement) → (b : ℕ) → (h : Freed w a fs f s b) → (u : Statement) → (c : ℕ)
    → FoundStatement h.base h.start u c → Awaited w a fs u c
freed_whole w a fs f s b h u c g = record { base = h.base; start = h.start; stacked = h.stacked; found = g }

pub freed_led : PartsLaw → (w : Words) → (a : ℕ) → (fs : List Frame) → (f : Frame) → (s : Statement) → (b : ℕ) → (h : Freed w a fs f s b) → (xs : List Lead)
    → (v : Words) → (place : ℕ) → Leading h.base h.start xs v place → Pending w a fs xs v place
freed_led law w a fs f s b h xs v place g = pending law w a fs xs v place h.base h.start h.stacked g

-- a frame whose statement is read
pub alone_settles : PartsLaw → (w : Words) → (a : ℕ) → (xs : List Lead) → (v : Words) → (at : ℕ) → Leading w a xs v at → kind_in v at ≡ If
    → (t : Tree) → (c : ℕ) → FoundTest v (at + 1) t c → (s : Statement) → (b : ℕ) → FoundStatement (past_tree v t) (c + 1) s b
    → (kind_in v b ≡ Else → ⊥) → (u : Statement) → u ≡ led xs (led (If_of at (at + 1) t c ∷ []) s) → FoundStatement w a u b
alone_settles law w a xs v at h k t c f s b g lack u e =
    subst (λ x. FoundStatement w a x b) (sym e)
    (leading_ends law w a xs v at h (led (If_of at (at + 1) t c ∷ []) s) b (if_alone_found law v at k t c f s b g lack))

pub chosen_settles : PartsLaw → (w : Words) → (a : ℕ) → (xs : List Lead) → (v : Words) → (at : ℕ) → Leading w a xs v at → kind_in v at ≡ If
    → (t : Tree) → (c : ℕ) → FoundTest v (at + 1) t c → (s : Statement) → (b : ℕ) → FoundStatement (past_tree v t) (c + 1) s b
    → kind_in v b ≡ Else → b < length v.kinds → (j : Words) → j ≡ past_tree v t → (u : Statement) → u ≡ s → (ys : List Lead)
    → ys ≡ xs ++ If_else_of at (at + 1) t c u b ∷ [] → Leading w a ys j (b + 1)
chosen_settles law w a xs v at h k t c f s b g q le j inner u same ys e =
    leading_turns law w a xs v at h (If_else_of at (at + 1) t c s b) (b + 1) (if_else_found law v at k t c f s b g q le) j inner ys
    (e ∙ ap (λ x. xs ++ If_else_of at (at + 1) t c x b ∷ []) same)

pub looped_settles : PartsLaw → (w : Words) → (a : ℕ) → (xs : List Lead) → (v : Words) → (at : ℕ) → Leading w a xs v at → (s : Statement) → (b : ℕ)
    → FoundStatement v at s b → (u : Statement) → u ≡ led xs s → FoundStatement w a u b
looped_settles law w a xs v at h s b f u e = subst (λ x. FoundStatement w a x b) (sym e) (leading_ends law w a xs v at h s b f)

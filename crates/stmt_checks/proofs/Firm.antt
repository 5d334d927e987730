-- What an item means by its names and by what is said of tags is what it means.
use Rattle.std.proofs.Common.{◌≡◌, refl, sym, ap, ap₂, ◌∙◌, subst, ℕ, List, [], ◌∷◌, ◌++◌, Option, Some, None, option_map, unwrap_or, inl, inr, Result, Ok, Err, OnOk}
use Rattle.asking.specs.Asking.{Answers, Asking, Asks, Gives, asks_all}
use Rattle.asking.specs.Lists.{Has}
use Rattle.asking.specs.LookUps.{Ends, Given, LookUp, Looked, Needs, both, by_found, found_all, given_all, result_of, run_by, unanswered}
use Rattle.earlier_items.specs.Before.{AreBefore, Tells, before, members_only, said, tags_before}
use Rattle.elab_state.specs.Answering.{or_nothing, with_answer, with_answered, with_answers}
use Rattle.elab_state.specs.Doings.{begun}
use Rattle.elab_state.specs.Wants.{Told, answered, wants}
use Rattle.elab_state.specs.declared.wants.Elab.{Elab}
use Rattle.elab_state.specs.declared.wants.Elab.TheVariants.{Done}
use Rattle.elab_state.specs.declared.made.Made.{Made}
use Rattle.elab_state.specs.declared.wants.Wanted.{Wanted}
use Rattle.item_readings.specs.Readings.{IsReader, Reader}
use Rattle.scope_tables.specs.declared.entities.Entity.{Entity}
use Rattle.scope_tables.specs.declared.entities.ScopeKind.TheVariants.{File}
use Rattle.scope_tables.specs.declared.meanings.BodyMeaning.{BodyMeaning}
use Rattle.scope_tables.specs.declared.meanings.HeadMeaning.{HeadMeaning}
use Rattle.tok_data.specs.declared.tokens.OutToken.{OutToken}
use Rattle.type_data.specs.declared.members.Space.{Space}
use Rattle.type_data.specs.declared.members.Space.TheVariants as space
use Rattle.type_data.specs.declared.names.ItemName.{ItemName}
use Rattle.stmt_checks.specs.Firm.{Adds, IsBody, IsHead, IsMeant, IsPart, all_of}
use Rattle.stmt_checks.specs.Last.{if_any}
use Rattle.stmt_checks.specs.declared.folding.Folding.{Folding}
use Rattle.stmt_checks.specs.declared.parts.Part.{Part}
use Rattle.stmt_checks.specs.Heads.{MeansBehind as HeadBehind, head_from, head_meaning}
use Rattle.stmt_checks.specs.Meanings.{Means, MeansBehind as BodyBehind, answers_in, body_from, body_meaning, context, questions}

-- ---- a run that ended over answers that are given ends with the result

abbrev end_or : {A : Type 0} → A → Looked wants A → A
end_or x (Ends y) = y
end_or x (Needs ws) = x

both_given : {X Y : Type 0} (o : Option X) (p : Option Y) (xy : X × Y) (x : X) (y : Y) →
    ((a : X) → o ≡ Some a → a ≡ x) → ((b : Y) → p ≡ Some b → b ≡ y) → both o p ≡ Some xy → xy ≡ (x, y)
both_given None p xy x y f g e = absurd (cc e)
both_given (Some a) None xy x y f g e = absurd (cc e)
both_given (Some a) (Some b) xy x y f g e = sym (ap (λ o. unwrap_or o xy) e) ∙ ap₂ (λ a b. (a, b)) (f a refl) (g b refl)

module _ (look : LookUp wants) (given : Given wants) (agrees : (q : Wanted) (a : Option Entity) → look q ≡ Some a → a ≡ given q) where
  found_given : (qs : List Wanted) (answers : Answers wants qs) → found_all wants look qs ≡ Some answers → answers ≡ given_all wants given qs
  found_given [] answers e = refl
  found_given (q ∷ qs) answers e = both_given (look q) (found_all wants look qs) answers (given q) (given_all wants given qs) (agrees q) (found_given qs) e

  goes_on : {A : Type 0} (x : A) (q : Wanted) (more : List Wanted) (next : Answers wants (q ∷ more) → Asking wants A) (o : Option (Answers wants (q ∷ more))) →
      found_all wants look (q ∷ more) ≡ o → by_found (unanswered wants look (q ∷ more)) (λ answers. run_by look (next answers)) o ≡ Ends x →
      ((answers : Answers wants (q ∷ more)) → run_by look (next answers) ≡ Ends x → x ≡ result_of given (next answers)) →
      x ≡ result_of given (next (given_all wants given (q ∷ more)))
  goes_on x q more next None found e behind = absurd (cc e)
  goes_on x q more next (Some answers) found e behind = behind answers e ∙ ap (λ a. result_of given (next a)) (found_given (q ∷ more) answers found)

  pub ends_right : {A : Type 0} (asking : Asking wants A) (x : A) → run_by look asking ≡ Ends x → x ≡ result_of given asking
  ends_right (Gives y) x e = sym (ap (λ l. end_or y l) e)
  ends_right (Asks q more next) x e = goes_on x q more next (found_all wants look (q ∷ more)) refl e (λ answers. ends_right (next answers) x)

-- what is said of tags is what the items say
of_members : (s : Space) (o a : Option Entity) → option_map Some (members_only s o) ≡ Some a → a ≡ o
of_members space.Labels o a e = absurd (cc e)
of_members space.Tags o a e = absurd (cc e)
of_members (space.Members id) None a e = absurd (cc e)
of_members (space.Members id) (Some x) a e = sym (ap (λ p. unwrap_or p a) e)
of_members space.Ordinary o a e = absurd (cc e)

tags_agree : (front : List HeadMeaning) (q : Wanted) (a : Option Entity) → tags_before front q ≡ Some a → a ≡ before front q
tags_agree front q a e = of_members q.space (before front q) a e

-- ---- first all names are asked for

given_stand : (given : Given wants) (qs : List Wanted) (m : Made) → with_answers qs (given_all wants given qs) m ≡ with_answered (λ q. Some (given q)) qs m
given_stand given [] m = refl
given_stand given (q ∷ qs) m = given_stand given qs (with_answer q (given q) m)

first_asked : {A : Type 0} (given : Given wants) (qs : List Wanted) (next : Made → Asking wants A) (m : Made) →
    result_of given (asks_all qs (λ answers. next (with_answers qs answers m))) ≡ result_of given (next (with_answered (λ q. Some (given q)) qs m))
first_asked given [] next m = refl
first_asked given (q ∷ qs) next m = ap (λ n. result_of given (next n)) (given_stand given (q ∷ qs) m)

pub firm_head : (front : List HeadMeaning) (name : ItemName) (h : HeadMeaning) (ts : List OutToken) → IsHead front name h ts → (r : Reader) → IsReader r →
    h ≡ result_of (before front) (head_meaning r (context name ts 0))
firm_head front name h ts firm r is =
    let c = context name ts 0 in
    ends_right (tags_before front) (before front) (tags_agree front) (head_from r c (answers_in (all_of front) c)) h (firm r is)
    ∙ sym (first_asked (before front) (questions c) (λ m. head_from r c m) (begun File []))

pub firm_body : (front : List HeadMeaning) (h : HeadMeaning) (b : BodyMeaning) (ts : List OutToken) (base : ℕ) → IsBody front h b ts base → (r : Reader) → IsReader r →
    b ≡ result_of (before front) (body_meaning r (context h.item ts base) h)
firm_body front h b ts base firm r is =
    let c = context h.item ts base in
    ends_right (tags_before front) (before front) (tags_agree front) (body_from r c h (answers_in (all_of front) c)) b (firm r is)
    ∙ sym (first_asked (before front) (questions c) (λ m. body_from r c h m) (begun File []))

-- ---- where others say the same

with_same : (look more : LookUp wants) (qs : List Wanted) → ((q : Wanted) → Has qs q → look q ≡ more q) → (m : Made) → with_answered look qs m ≡ with_answered more qs m
with_same look more [] same m = refl
with_same look more (q ∷ qs) same m =
    ap (λ a. with_answered look qs (with_answer q (or_nothing a) m)) (same q (inl refl))
    ∙ with_same look more qs (λ p h. same p (inr h)) (with_answer q (or_nothing (more q)) m)

module _ (front others : List HeadMeaning) (tags : (q : Wanted) → tags_before front q ≡ tags_before others q) where
  said_same : (qs : List Wanted) → ((q : Wanted) → Has qs q → before front q ≡ before others q) → (m : Made) →
      with_answered (all_of front) qs m ≡ with_answered (all_of others) qs m
  said_same qs same m = with_same (all_of front) (all_of others) qs (λ q h. ap Some (same q h)) m

  all_tags : tags_before front ≡ tags_before others
  all_tags = λ i q. tags q i

  pub head_moves : (name : ItemName) (h : HeadMeaning) (ts : List OutToken) → ((q : Wanted) → Has (questions (context name ts 0)) q → before front q ≡ before others q) →
      IsHead front name h ts → IsHead others name h ts
  head_moves name h ts same firm r is =
      let c = context name ts 0 in
      ap₂ (λ look m. run_by look (head_from r c m)) (sym all_tags) (sym (said_same (questions c) same (begun File []))) ∙ firm r is

  pub body_moves : (h : HeadMeaning) (b : BodyMeaning) (ts : List OutToken) (base : ℕ) →
      ((q : Wanted) → Has (questions (context h.item ts base)) q → before front q ≡ before others q) → IsBody front h b ts base → IsBody others h b ts base
  body_moves h b ts base same firm r is =
      let c = context h.item ts base in
      ap₂ (λ look m. run_by look (body_from r c h m)) (sym all_tags) (sym (said_same (questions c) same (begun File []))) ∙ firm r is

-- ---- over what the code keeps of the items in front

module _ (front : List HeadMeaning) (tells : Tells) (are : AreBefore front tells) (names tags : Told) (is_tags : tags ≡ tells.tags)
    (whole : (q : Wanted) → answered names q ≡ Some (said tells.known q)) where
  all_known : answered names ≡ all_of front
  all_known = λ i q. (whole q ∙ ap Some (are.said q)) i

  all_tags_known : answered tags ≡ tags_before front
  all_tags_known = ap answered is_tags ∙ (λ i q. are.tags q i)

  pub is_head : (name : ItemName) (h : HeadMeaning) (ts : List OutToken) (elab : Elab HeadMeaning) → elab ≡ Done h →
      HeadBehind (answered names) (answered tags) (context name ts 0) elab → IsHead front name h ts
  is_head name h ts elab done means r is =
      let ran : run_by (answered tags) (head_from r (context name ts 0) (answers_in (answered names) (context name ts 0))) ≡ Ends h =
      subst (λ e. Means (run_by (answered tags) (head_from r (context name ts 0) (answers_in (answered names) (context name ts 0)))) e) done (means r is) in
      ap₂ (λ look known. run_by look (head_from r (context name ts 0) (answers_in known (context name ts 0)))) (sym all_tags_known) (sym all_known) ∙ ran

  pub is_body : (h : HeadMeaning) (b : BodyMeaning) (ts : List OutToken) (base : ℕ) (elab : Elab BodyMeaning) → elab ≡ Done b →
      BodyBehind (answered names) (answered tags) (context h.item ts base) h elab → IsBody front h b ts base
  is_body h b ts base elab done means r is =
      let ran : run_by (answered tags) (body_from r (context h.item ts base) h (answers_in (answered names) (context h.item ts base))) ≡ Ends b =
      subst (λ e. Means (run_by (answered tags) (body_from r (context h.item ts base) h (answers_in (answered names) (context h.item ts base)))) e) done (means r is) in
      ap₂ (λ look known. run_by look (body_from r (context h.item ts base) h (answers_in known (context h.item ts base)))) (sym all_tags_known) (sym all_known) ∙ ran

-- ---- an item is added

pub adds : {E : Type 0} (name : ItemName) (ts : List OutToken) (f g : Folding) (ps ps' : List Part) (h : HeadMeaning) (b : Option BodyMeaning) (p : Part) (bs : List BodyMeaning)
    (r : Result (Unit {0}) E) → OnOk r (g.heads.items ≡ f.heads.items ++ h ∷ []) → OnOk r (g.bodies.items ≡ bs) → bs ≡ f.bodies.items ++ if_any b → ps' ≡ ps ++ p ∷ [] →
    IsPart name ts h p → IsMeant name ts f.heads.items h b → OnOk r (Adds name ts h f g ps ps')
adds name ts f g ps ps' h b p bs (Ok x) heads bodies more parts part meant = record {
  b = b;
  p = p;
  heads = heads;
  bodies = bodies ∙ more;
  parts = parts;
  part = part;
  meant = meant;
}
adds name ts f g ps ps' h b p bs (Err e) heads bodies more parts part meant = heads

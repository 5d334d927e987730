-- Units that are gone through from the front: each stays or is worked out.
use Rattle.std.proofs.Common.{◌≡◌, ℕ, suc, ◌+◌, Bool, true, false, cond, ◌||◌, List, [], ◌∷◌, ◌++◌, length, map, Option, bytes_eq, append_assoc, refl, sym, ap, ◌∙◌, subst, arith}
use Rattle.std.proofs.lemmas.List.{append-nil}
use Rattle.std.specs.List.{filter, list_any}
use Rattle.doc_texts.specs.Prior.{Prior}
use Rattle.doc_texts.specs.Texts.{Texts}
use Rattle.project_conf.specs.declared.conf.Conf.{Conf}
use Rattle.plain_mean.specs.declared.types.Grounds.{Grounds}
use Rattle.unit_index.specs.Known.{Known}
use Rattle.c_session.specs.Renewal.{AreApart, RestOn, RestsOn, due_at, is_due, unit_at, unit_by}
use Rattle.c_session.specs.declared.held.HeldUnit.{HeldUnit}
use Rattle.c_session.proofs.Holding.{is_apart, or_true, same}

zero_plus : (n : ℕ) → n ≡ 0 + n
zero_plus n = omega arith

suc_plus : (n : ℕ) → suc n ≡ 1 + n
suc_plus n = omega arith

counts : (b : Bool) (p : List ℕ) (ps : List (List ℕ)) → length (cond b (p ∷ ps) ps) ≡ cond b 1 0 + length ps
counts true p ps = suc_plus (length ps)
counts false p ps = zero_plus (length ps)

one_less : (steps steps' one rest behind all : ℕ) → steps' ≡ steps + one → rest ≡ one + behind → steps + rest ≡ all → steps' + behind ≡ all
one_less steps steps' one rest behind all ticked parts before = omega (arith, ticked, parts, before)

none_more : (steps rest all : ℕ) → rest ≡ 0 → steps + rest ≡ all → steps ≡ all
none_more steps rest all none before = omega (arith, none, before)

pub none_left : {X : Type 0} (xs : List X) → length xs ≡ 0 → xs ≡ []
none_left [] none = refl
none_left (x ∷ xs) none = absurd (omega (arith, none))

module _ (held : List ℕ → Option HeldUnit) (prior : Prior) (now : Texts) (conf : Conf) (paths : List (List ℕ)) (start : ℕ) where
  -- what was made so far, and what waits
  pub record Passes (waiting : List ℕ → Option HeldUnit) (rest : List (List ℕ)) (units : List Known) (grounds : List Grounds) (steps : ℕ) : Type 0 where
    pub alike : (q : List ℕ) → list_any (bytes_eq q) rest ≡ true → waiting q ≡ held q
    pub apart : AreApart rest
    pub made : units ++ map (unit_at held prior now conf) rest ≡ map (unit_at held prior now conf) paths
    pub rested : (more : List Grounds) → RestOn held prior now conf rest more → RestOn held prior now conf paths (grounds ++ more)
    pub count : steps + length (filter (due_at held prior now conf) rest) ≡ start + length (filter (due_at held prior now conf) paths)

  pub passes_begins : (units : List Known) (grounds : List Grounds) → units ≡ [] → grounds ≡ [] → AreApart paths → Passes held paths units grounds start
  passes_begins units grounds no_unit no_grounds apart = record {
    alike = λ q among. refl;
    apart = apart;
    made = ap (λ us. us ++ map (unit_at held prior now conf) paths) no_unit;
    rested = λ more rest. subst (λ gs. RestOn held prior now conf paths (gs ++ more)) (sym no_grounds) rest;
    count = refl;
  }

  pub passes_turns : (waiting waiting' : List ℕ → Option HeldUnit) (rest behind : List (List ℕ)) (path : List ℕ) (units units' : List Known) (grounds grounds' : List Grounds) (steps steps' : ℕ) (u : HeldUnit) →
      Passes waiting rest units grounds steps → rest ≡ path ∷ behind →
      u.unit ≡ unit_by (waiting path) prior now conf path → RestsOn (waiting path) prior now conf path u.grounds →
      ((q : List ℕ) → bytes_eq q path ≡ false → waiting' q ≡ waiting q) →
      units' ≡ units ++ u.unit ∷ [] → grounds' ≡ grounds ++ u.grounds ∷ [] → steps' ≡ steps + cond (is_due (waiting path) prior now conf path) 1 0 →
      Passes waiting' behind units' grounds' steps'
  passes_turns waiting waiting' rest behind path units units' grounds grounds' steps steps' u p first is rests others one_unit one_grounds ticked =
      let f = unit_at held prior now conf in
      let here : waiting path ≡ held path = p.alike path (ap (list_any (bytes_eq path)) first ∙ ap (λ b. b || list_any (bytes_eq path) behind) (same path)) in
      let apart : AreApart (path ∷ behind) = subst AreApart first p.apart in
      let unit : u.unit ≡ f path = is ∙ ap (λ o. unit_by o prior now conf path) here in
      let on : RestsOn (held path) prior now conf path u.grounds = subst (λ o. RestsOn o prior now conf path u.grounds) here rests in
      record {
        alike = λ q among. others q (is_apart path behind q (bytes_eq q path) refl apart among)
            ∙ p.alike q (ap (list_any (bytes_eq q)) first ∙ ap (λ b. bytes_eq q path || b) among ∙ sym (or_true (bytes_eq q path)));
        apart = apart.1;
        made = ap (λ m. m ++ map f behind) (one_unit ∙ ap (λ y. units ++ y ∷ []) unit)
            ∙ append_assoc units (f path ∷ []) (map f behind) ∙ ap (λ r. units ++ map f r) (sym first) ∙ p.made;
        rested = λ more rest_on.
            subst (RestOn held prior now conf paths) (sym (ap (λ gs. gs ++ more) one_grounds ∙ append_assoc grounds (u.grounds ∷ []) more))
            (p.rested (u.grounds ∷ more) (subst (λ ps. RestOn held prior now conf ps (u.grounds ∷ more)) (sym first) (on, rest_on)));
        count = one_less steps steps' (cond (due_at held prior now conf path) 1 0) (length (filter (due_at held prior now conf) rest)) (length (filter (due_at held prior now conf) behind)) _
            (ticked ∙ ap (λ o. steps + cond (is_due o prior now conf path) 1 0) here)
            (ap (λ ps. length (filter (due_at held prior now conf) ps)) first ∙ counts (due_at held prior now conf path) path (filter (due_at held prior now conf) behind)) p.count;
      }

  -- what waits for the path in turn is as it was
  pub passes_here : (waiting : List ℕ → Option HeldUnit) (rest behind : List (List ℕ)) (path : List ℕ) (units : List Known) (grounds : List Grounds) (steps : ℕ) →
      Passes waiting rest units grounds steps → rest ≡ path ∷ behind → waiting path ≡ held path
  passes_here waiting rest behind path units grounds steps p first = p.alike path (ap (list_any (bytes_eq path)) first ∙ ap (λ b. b || list_any (bytes_eq path) behind) (same path))

  module _ (waiting : List ℕ → Option HeldUnit) (rest : List (List ℕ)) (units : List Known) (grounds : List Grounds) (steps : ℕ) (p : Passes waiting rest units grounds steps) (none : rest ≡ []) where
    pub all_made : units ≡ map (unit_at held prior now conf) paths
    all_made = sym (append-nil units) ∙ ap (λ ps. units ++ map (unit_at held prior now conf) ps) (sym none) ∙ p.made

    pub all_rest : RestOn held prior now conf paths grounds
    all_rest = subst (RestOn held prior now conf paths) (append-nil grounds) (p.rested [] (subst (λ ps. RestOn held prior now conf ps []) (sym none) tt))

    pub all_counted : steps ≡ start + length (filter (due_at held prior now conf) paths)
    all_counted = none_more steps (length (filter (due_at held prior now conf) rest)) _ (ap (λ ps. length (filter (due_at held prior now conf) ps)) none) p.count

-- The lines of the tokens that spell `__LINE__` are among those of all tokens.
use Rattle.std.proofs.Common.{◌≡◌, refl, sym, ap, ◌∙◌, subst, arith, T, ℕ, ◌==◌, Bool, true, false, not, ◌&&◌, List, [], ◌∷◌, codes, bytes_eq, Option, None, Some, is_some, option_map, if◌then◌else◌}
use Rattle.std.specs.List.{find}
use Rattle.std.specs.Option.{option_map_or}
use Rattle.tok_data.specs.declared.sources.TokId.{TokId}
use Rattle.tok_data.specs.declared.tokens.OutToken.{OutToken}
use Rattle.c_tokens.specs.declared.types.Places.{Places}
use Rattle.macro_expand.specs.declared.types.Within.{Within}
use Rattle.macro_expand.specs.Expansion.{Definitions, expanded, line_in}
use Rattle.macro_expand.specs.Room.{within}
use Rattle.pp_cond.specs.Defined.{is_word}
use Rattle.asking.specs.Asking.{Gives}
use Rattle.asking.specs.LookUps.{Looked, Ends, Needs, and_look, look_up, run_by}
use Rattle.include_units.specs.declared.types.FileAnswer.{FileAnswer}
use Rattle.include_units.specs.Files.{files}
use Rattle.include_units.specs.Texts.{Text}
use Rattle.include_units.specs.Made.{Made, definitions}
use Rattle.include_units.specs.Runs.{places_of, line_of, lines_by}
use Rattle.include_units.specs.Rooms.{AreLines, AreFew, few_lines, within_in}
use Rattle.include_units.proofs.RoomLemmas.{lines_known}
use Rattle.include_units.proofs.Runnings.{run_and, run_then}

-- ---- one token

abbrev at_site : TokId → TokId → Bool
at_site a site = a.at == site.at && bytes_eq a.file site.file

left_of : (a b : Bool) → (a && b) ≡ true → a ≡ true
left_of true b e = refl
left_of false b e = absurd (subst T (sym e) tt)

same_at : (a site : TokId) → at_site a site ≡ true → a.at ≡ site.at
same_at a site e = let h : (a.at == site.at) ≡ true = left_of (a.at == site.at) (bytes_eq a.file site.file) e in grind (arith, h)

same_some : (m n : ℕ) → Some m ≡ Some n → m ≡ n
same_some m n e = ap (λ (o : Option ℕ). option_map_or (λ k. k) o 0) e

abbrev line : Option (TokId × ℕ) → Option ℕ
line o = option_map (λ e. e.1) o

module _ (places : Places) (site : TokId) (n : ℕ) where
  -- a line depends on the site's number alone
  depends : (t : OutToken) (o : Option (TokId × ℕ)) → (line o ≡ Some n → line_of places site.at ≡ n) → (c : Bool) → at_site t.site site ≡ c →
      line (if c then Some (t.site, line_of places t.site.at) else o) ≡ Some n → line_of places site.at ≡ n
  depends t o later true e h = ap (line_of places) (sym (same_at t.site site e)) ∙ same_some (line_of places t.site.at) n h
  depends t o later false e h = later h

  cell_depends : (t : OutToken) (xs : List (TokId × ℕ)) → (line_in xs site ≡ Some n → line_of places site.at ≡ n) → (b : Bool) →
      line_in (if b then (t.site, line_of places t.site.at) ∷ xs else xs) site ≡ Some n → line_of places site.at ≡ n
  cell_depends t xs later true h = depends t (find (λ e. e.0.at == site.at && bytes_eq e.0.file site.file) xs) later (at_site t.site site) refl h
  cell_depends t xs later false h = later h

  few_depend : (ts : List OutToken) → line_in (few_lines places ts) site ≡ Some n → line_of places site.at ≡ n
  few_depend [] h = absurd (subst (λ (o : Option ℕ). T (not (is_some o))) h tt)
  few_depend (t ∷ ts) h = cell_depends t (few_lines places ts) (few_depend ts) (is_word (codes "__LINE__") t) h

  put : (t : OutToken) (o : Option (TokId × ℕ)) → line_of places site.at ≡ n → (c : Bool) → at_site t.site site ≡ c → line o ≡ Some n →
      line (if c then Some (t.site, line_of places t.site.at) else o) ≡ Some n
  put t o h true e g = ap (λ k. Some k) (ap (line_of places) (same_at t.site site e) ∙ h)
  put t o h false e g = g

  turned : (x : TokId × ℕ) (o more : Option (TokId × ℕ)) → (line o ≡ Some n → line more ≡ Some n) → (c : Bool) →
      line (if c then Some x else o) ≡ Some n → line (if c then Some x else more) ≡ Some n
  turned x o more later true h = h
  turned x o more later false h = later h

  cell_tells : (t : OutToken) (xs ys : List (TokId × ℕ)) → line_of places site.at ≡ n → (line_in xs site ≡ Some n → line_in ys site ≡ Some n) → (b : Bool) →
      line_in (if b then (t.site, line_of places t.site.at) ∷ xs else xs) site ≡ Some n → line_in ((t.site, line_of places t.site.at) ∷ ys) site ≡ Some n
  cell_tells t xs ys l later true h =
      turned (t.site, line_of places t.site.at) (find (λ e. e.0.at == site.at && bytes_eq e.0.file site.file) xs) (find (λ e. e.0.at == site.at && bytes_eq e.0.file site.file) ys)
      later (at_site t.site site) h
  cell_tells t xs ys l later false h = put t (find (λ e. e.0.at == site.at && bytes_eq e.0.file site.file) ys) l (at_site t.site site) refl (later h)

  few_tell : (ts : List OutToken) → line_in (few_lines places ts) site ≡ Some n → line_in (lines_by places ts) site ≡ Some n
  few_tell [] h = h
  few_tell (t ∷ ts) h =
      cell_tells t (few_lines places ts) (lines_by places ts) (few_depend (t ∷ ts) h) (few_tell ts) (is_word (codes "__LINE__") t) h

none_tells : (lines : List (TokId × ℕ)) (site : TokId) (n : ℕ) → line_in [] site ≡ Some n → line_in lines site ≡ Some n
none_tells lines site n e = absurd (subst (λ (o : Option ℕ). T (not (is_some o))) e tt)

-- ---- a run

abbrev is_end : {A : Type 0} → Looked files A → Type 0
is_end (Ends x) = Unit {0}
is_end (Needs qs) = ⊥

abbrev given : List (TokId × ℕ) → Looked files (List (TokId × ℕ)) → List (TokId × ℕ)
given other (Ends xs) = xs
given other (Needs qs) = other

abbrev few_of : List OutToken → Places → Looked files (List (TokId × ℕ))
few_of ts places = Ends (few_lines places ts)

told_of : (l : Looked files Places) (ts : List OutToken) (few : List (TokId × ℕ)) → and_look l (few_of ts) ≡ Ends few → (places : Places) × (l ≡ Ends places) × (few ≡ few_lines places ts)
told_of (Ends places) ts few h = (places, refl, sym (ap (given few) h))
told_of (Needs qs) ts few h = absurd (subst is_end (sym h) tt)

abbrev More : Type 0
More = (table : Definitions) (few lines : List (TokId × ℕ)) (budget : ℕ) (tokens : List OutToken) →
    ((site : TokId) (n : ℕ) → line_in few site ≡ Some n → line_in lines site ≡ Some n) →
    (expanded table few budget tokens).asked ≡ None → expanded table few budget tokens ≡ expanded table lines budget tokens

-- where no other line is wanted; `more` says that more lines make no difference then
pub few_known : (more : More) →
    (answers : List (List ℕ × FileAnswer)) (text : Text) (ts : List OutToken) (room : ℕ) (m : Made) (few : List (TokId × ℕ)) (w : Within) →
    AreFew answers text.source ts few → w ≡ within room (expanded (definitions m) few m.left ts) → w.expanded.asked ≡ None →
    run_by (look_up files answers) (within_in text ts room m) ≡ Ends w
few_known more answers text ts room m few w e i none =
    let told = told_of (run_by (look_up files answers) (places_of text.source)) ts few
    (sym (run_and (look_up files answers) (places_of text.source) (λ places. Gives (few_lines places ts))) ∙ e) in
    let lines : List (TokId × ℕ) = lines_by told.0 ts in
    let known : AreLines answers text.source ts lines = run_then (look_up files answers) (places_of text.source) (λ places. Gives (lines_by places ts)) told.0 told.1 in
    let tells : (site : TokId) (n : ℕ) → line_in few site ≡ Some n → line_in lines site ≡ Some n =
    λ site n h. few_tell told.0 site n ts (ap (λ xs. line_in xs site) (sym told.2) ∙ h) in
    let quiet : (expanded (definitions m) few m.left ts).asked ≡ None = sym (ap (λ (x : Within). x.expanded.asked) i) ∙ none in
    lines_known (λ table ls budget tokens h. more table [] ls budget tokens (none_tells ls) h) answers text ts room m lines w known
    (i ∙ ap (within room) (more (definitions m) few lines m.left ts tells quiet))

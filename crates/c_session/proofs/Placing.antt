-- Where ranges of a text stand, as they are gone through from the front.
use Rattle.std.proofs.Common.{◌≡◌, ◌≤◌, ℕ, List, [], ◌∷◌, length, map, Option, Some, None, IfSome, unwrap_or, refl, sym, ap, subst, ◌∙◌}
use Rattle.std.specs.List.{AllByRecursion, filter_map}
use Rattle.c_tokens.specs.Lexed.{lexed}
use Rattle.c_tokens.specs.Logical.{closing_line_end}
use Rattle.c_tokens.specs.Pieces.{first_front}
use Rattle.doc_texts.specs.Edited.{CanAllBeMade, Stand}
use Rattle.doc_texts.specs.Limits.{longest_text}
use Rattle.doc_texts.specs.Texts.{Texts, text_at}
use Rattle.doc_texts.specs.declared.ranges.ByteRange.{ByteRange}
use Rattle.doc_texts.specs.declared.ranges.TextEdits.{TextEdits}
use Rattle.lsp_answers.specs.declared.located.Located.{Located}
use Rattle.plain_mean.specs.Given.{text_in}
use Rattle.plain_mean.specs.Ranges.{Ranges, numbers_in, paths_in, plain, range_at, ranges_at_path, ranges_of}
use Rattle.text_lines.specs.declared.encoding.Encoding.{Encoding}
use Rattle.tok_data.specs.declared.sources.TokId.{TokId}
use Rattle.c_session.specs.Places.{shown_at, span, uri_for}
use Rattle.c_session.specs.Renames.{located_at}

-- ---- one text

-- the ranges stand in the text from some place on
abbrev pub Standing : List ℕ → List ByteRange → Type 0
Standing text rs = (at : ℕ) × Stand text at rs

module _ (text : List ℕ) (rest behind : List ByteRange) (r : ByteRange) (first : rest ≡ r ∷ behind) (s : Standing text rest) where
  here : Stand text s.0 (r ∷ behind)
  here = subst (Stand text s.0) first s.1

  pub stands_behind : Standing text behind
  stands_behind = (r.end, here.1)

  pub begins_within : r.start ≤ length text
  begins_within = here.0.begins.0

  pub ends_within : r.end ≤ length text
  ends_within = here.0.ends.0

-- the walk's text and encoding are those of the place
pub placed_as : (texts : Texts) (encoding enc : Encoding) (path uri text : List ℕ) (r : ByteRange) (one : Located) → one ≡ shown_at uri 0 [] (span text enc (r.start, r.end)) → uri ≡ uri_for texts path →
    text ≡ text_in texts path → enc ≡ encoding → one ≡ located_at texts encoding path r
placed_as texts encoding enc path uri text r one is named own same = is ∙ (λ i. shown_at (named i) 0 [] (span (own i) (same i) (r.start, r.end)))

-- ---- all texts

-- an empty text has no token
no_places : (lexed []).places ≡ []
unfolding closing_line_end first_front
no_places = refl

none_found : (ns : List ℕ) → filter_map (range_at []) ns ≡ []
none_found [] = refl
none_found (n ∷ ns) = none_found ns

abbrev first_range : Ranges → List Ranges → Ranges
first_range r [] = r
first_range r (x ∷ xs) = x

abbrev ranges_behind : List Ranges → List Ranges
ranges_behind [] = []
ranges_behind (x ∷ xs) = xs

module _ (texts : Texts) (toks : List TokId) where
  one_stands : (e : TextEdits) (path : List ℕ) (o : Option (List ℕ)) → text_at texts e.path ≡ o → plain e ≡ ranges_at_path texts toks path → IfSome o (λ text. (length text ≤ longest_text) × Stand text 0 e.ranges.items) →
      Stand (unwrap_or o []) 0 e.ranges.items
  one_stands e path (Some text) found is can = can.1
  one_stands e path None found is can =
      let own : text_in texts path ≡ [] = ap (text_in texts) (sym (ap (λ (r : Ranges). r.path) is)) ∙ ap (λ o. unwrap_or o []) found in
      let none : e.ranges.items ≡ [] =
      ap (λ (r : Ranges). r.ranges) is ∙ ap (λ t. filter_map (range_at (lexed t).places) (numbers_in toks path)) own
      ∙ ap (λ ps. filter_map (range_at ps) (numbers_in toks path)) no_places ∙ none_found (numbers_in toks path) in
      subst (Stand [] 0) (sym none) tt

  stand_by : (edits : List TextEdits) (paths : List (List ℕ)) → map plain edits ≡ map (ranges_at_path texts toks) paths → CanAllBeMade texts edits →
      AllByRecursion (λ e. Stand (text_in texts e.path) 0 e.ranges.items) edits
  stand_by [] paths is can = tt
  stand_by (e ∷ es) [] is can = absurd (let bad : ⊥ = cc is in bad)
  stand_by (e ∷ es) (p ∷ ps) is can = (
    one_stands e p (text_at texts e.path) refl (ap (first_range (plain e)) is) can.0,
    stand_by es ps (ap ranges_behind is) can.1,
  )

  -- also where there is no text at a path: there are no ranges then
  pub all_stand : (edits : List TextEdits) → map plain edits ≡ ranges_of texts toks → CanAllBeMade texts edits → AllByRecursion (λ e. Stand (text_in texts e.path) 0 e.ranges.items) edits
  all_stand edits is can = stand_by edits (paths_in toks) is can

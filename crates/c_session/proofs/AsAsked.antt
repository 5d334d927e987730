-- The edits of a rename are to the name that was asked for, and other texts stay.
use Rattle.std.proofs.Common.{◌≡◌, ◌≢◌, ℕ, Bool, true, false, ◌||◌, List, [], ◌∷◌, map, Option, Some, None, bytes_eq, refl, ◌∙◌}
use Rattle.std.specs.List.{list_any}
use Rattle.std.proofs.lemmas.Slice.Eq.{bytes_eq-Decides}
use Rattle.doc_texts.proofs.EditsFollowed.{put_others}
use Rattle.doc_texts.specs.Edited.{renamed}
use Rattle.doc_texts.specs.Texts.{Texts, text_at}
use Rattle.plain_mean.specs.Ranges.{Ranges, all_renamed, paths_in, ranges_at_path, texts_after, with_ranges}
use Rattle.tok_data.specs.declared.sources.TokId.{TokId}

neither : (a b : Bool) → (a || b) ≡ false → (a ≡ false) × (b ≡ false)
neither true b e = absurd (let bad : ⊥ = cc e in bad)
neither false b e = (refl, e)

apart : (p q : List ℕ) → bytes_eq p q ≡ false → p ≢ q
apart p q e = λ same. (let bad : ⊥ = cc (e, (bytes_eq-Decides p q).1 same) in bad)

module _ (texts : Texts) (toks : List TokId) (name path : List ℕ) where
  with_other : (made : Texts) (r : Ranges) (o : Option (List ℕ)) → bytes_eq path r.path ≡ false → text_at (with_ranges made r name o) path ≡ text_at made path
  with_other made r None e = refl
  with_other made r (Some text) e = put_others made r.path (renamed name r.ranges text) path (apart path r.path e)

  by_paths : (made : Texts) (paths : List (List ℕ)) → list_any (bytes_eq path) paths ≡ false → text_at (all_renamed texts made (map (ranges_at_path texts toks) paths) name) path ≡ text_at made path
  unfolding all_renamed
  by_paths made [] e = refl
  by_paths made (p ∷ paths) e =
      let none = neither (bytes_eq path p) (list_any (bytes_eq path) paths) e in
      by_paths (with_ranges made (ranges_at_path texts toks p) name (text_at texts p)) paths none.1 ∙ with_other made (ranges_at_path texts toks p) (text_at texts p) none.0

pub others_stay : (texts : Texts) (toks : List TokId) (name path : List ℕ) → list_any (bytes_eq path) (paths_in toks) ≡ false → text_at (texts_after texts toks name) path ≡ text_at texts path
unfolding texts_after
others_stay texts toks name path e = by_paths texts toks name path texts (paths_in toks) e

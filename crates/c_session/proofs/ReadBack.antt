-- The edits of a rename read back.
use Rattle.std.proofs.Common.{◌≡◌, ℕ, zero, suc, List, [], ◌∷◌, map, Option, Some, None, IfSome, option_map, slice_get, unwrap_or, refl, ap, subst, IsUtf8}
use Rattle.std.proofs.lemmas.Str.{IsUtf8-nil}
use Rattle.std.specs.List.{AllByRecursion, cons_option, filter_map}
use Rattle.c_tokens.specs.Lexed.{lexed}
use Rattle.doc_texts.specs.Texts.{Texts, text_at}
use Rattle.doc_texts.specs.declared.ranges.ByteRange.{ByteRange}
use Rattle.plain_mean.specs.Given.{text_in}
use Rattle.plain_mean.specs.Ranges.{all_renamed, numbers_in, paths_in, range_at, range_by, ranges_at_path, texts_after}
use Rattle.rename_core.specs.declared.confirming.Edits.{Edits}
use Rattle.text_lines.specs.declared.encoding.Encoding.{Encoding}
use Rattle.tok_data.specs.declared.sources.TokId.{TokId}
use Rattle.c_session.specs.ReadBack.{AreUtf8, bytes_read, editor_after, read_in}
use Rattle.c_session.specs.Renames.{located_at}
use Rattle.c_session.proofs.Named.{place_reads_back}
use Rattle.c_session.proofs.TokenPlaces.{EndsNamed, all_named}

-- both ends of each range can be named
abbrev AreNamed : List ℕ → List ByteRange → Type 0
AreNamed text rs = AllByRecursion (λ r. EndsNamed text (r.start, r.end)) rs

some_is : (p q : ℕ × ℕ) → Some p ≡ Some q → p ≡ q
some_is p q e = ap (λ o. unwrap_or o p) e

module _ (text : List ℕ) where
  pub one_named : (places : List (ℕ × ℕ)) (n : ℕ) (p : ℕ × ℕ) → AllByRecursion (EndsNamed text) places → slice_get places n ≡ Some p → EndsNamed text p
  one_named [] n p named e = absurd (let bad : ⊥ = cc e in bad)
  one_named (q ∷ qs) zero p named e = subst (EndsNamed text) (some_is q p e) named.0
  one_named (q ∷ qs) (suc n) p named e = one_named qs n p named.1 e

  with_range : (o : Option (ℕ × ℕ)) (rs : List ByteRange) → ((p : ℕ × ℕ) → o ≡ Some p → EndsNamed text p) → AreNamed text rs → AreNamed text (cons_option (option_map range_by o) rs)
  with_range None rs one more = more
  with_range (Some p) rs one more = (one p refl, more)

  ranges_named : (places : List (ℕ × ℕ)) (ns : List ℕ) → AllByRecursion (EndsNamed text) places → AreNamed text (filter_map (range_at places) ns)
  ranges_named places [] named = tt
  ranges_named places (n ∷ ns) named = with_range (slice_get places n) (filter_map (range_at places) ns) (λ p e. one_named places n p named e) (ranges_named places ns named)

module _ (texts : Texts) (utf8 : AreUtf8 texts) where
  own_by : (o : Option (List ℕ)) → IfSome o (λ text. IsUtf8 text) → IsUtf8 (unwrap_or o [])
  own_by None h = IsUtf8-nil
  own_by (Some text) h = h

  pub own : (path : List ℕ) → IsUtf8 (text_in texts path)
  own path = own_by (text_at texts path) (utf8 path)

  module _ (encoding : Encoding) where
    read_one : (path : List ℕ) (r : ByteRange) → EndsNamed (text_in texts path) (r.start, r.end) → bytes_read (text_in texts path) encoding (located_at texts encoding path r) ≡ r
    read_one path r named =
        let begin = place_reads_back (text_in texts path) r.start encoding (own path) named.0 in
        let end = place_reads_back (text_in texts path) r.end encoding (own path) named.1 in
        λ i. record { start = begin i; end = end i }

    read_list : (path : List ℕ) (rs : List ByteRange) → AreNamed (text_in texts path) rs → map (bytes_read (text_in texts path) encoding) (map (located_at texts encoding path) rs) ≡ rs
    read_list path [] named = refl
    read_list path (r ∷ rs) named = λ i. read_one path r named.0 i ∷ read_list path rs named.1 i

    read_paths : (toks : List TokId) (paths : List (List ℕ)) → map (read_in texts encoding) (map (ranges_at_path texts toks) paths) ≡ map (ranges_at_path texts toks) paths
    read_paths toks [] = refl
    read_paths toks (path ∷ paths) =
        let places : List (ℕ × ℕ) = (lexed (text_in texts path)).places in
        let same = read_list path (filter_map (range_at places) (numbers_in toks path)) (ranges_named (text_in texts path) places (numbers_in toks path) (all_named (text_in texts path) (own path))) in
        λ i. (record { path = path; ranges = same i }) ∷ read_paths toks paths i

pub edits_read_back : (texts : Texts) (encoding : Encoding) (e : Edits) → AreUtf8 texts → editor_after texts encoding e ≡ texts_after texts e.toks e.new_name
unfolding editor_after texts_after
edits_read_back texts encoding e utf8 = ap (λ rs. all_renamed texts texts rs e.new_name) (read_paths texts utf8 encoding e.toks (paths_in e.toks))

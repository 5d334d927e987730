-- A text in which a name is put range by range.
use Rattle.std.proofs.Common.{◌≡◌, ℕ, zero, suc, ◌+◌, ◌-◌, ◌*◌, ◌≤◌, List, [], ◌∷◌, ◌++◌, length, take, drop, slice_range, sym, refl, ap, ◌∙◌, arith, append_assoc, length-append, subst, ◌<◌}
use Rattle.std.proofs.lemmas.List.{take-append-le, drop-append-le, length-take-le, length-drop, drop-take}
use Rattle.doc_texts.specs.declared.ranges.ByteRange.{ByteRange}
use Rattle.doc_texts.specs.Edited.{renamed, IsNext, Stand}

take_take : (k s : ℕ) (xs : List ℕ) → k ≤ s → take k (take s xs) ≡ take k xs
take_take zero s xs h = refl
take_take (suc k) zero xs h = absurd (omega (arith, h))
take_take (suc k) (suc s) [] h = refl
take_take (suc k) (suc s) (x ∷ xs) h = ap (λ ys. x ∷ ys) (take_take k s xs (omega (arith, h)))

-- a front of a text of which more follows
front_of : (k s : ℕ) (xs ys : List ℕ) → k ≤ s → s ≤ length xs → take k (take s xs ++ ys) ≡ take k xs
front_of k s xs ys le within =
    let long = length-take-le s xs within in
    take-append-le k (take s xs) ys (omega (arith, le, long)) ∙ take_take k s xs le

-- what stands before the first range stays
pub front_stays : (name text : List ℕ) (rs : List ByteRange) (at k : ℕ) → Stand text at rs → k ≤ at → take k (renamed name rs text) ≡ take k text
unfolding renamed
front_stays name text [] at k stand le = refl
front_stays name text (r ∷ rs) at k stand le =
    let behind = stand.0.behind in
    let within = stand.0.begins.0 in
    let something = stand.0.something in
    let same = front_stays name text rs r.end r.start stand.1 (omega (arith, something)) in
    ap (λ xs. take k ((xs ++ name) ++ drop r.end (renamed name rs text))) same
    ∙ ap (take k) (append_assoc (take r.start text) name (drop r.end (renamed name rs text)))
    ∙ front_of k r.start text (name ++ drop r.end (renamed name rs text)) (omega (arith, le, behind)) within

slice_is : (xs : List ℕ) (at s : ℕ) → at ≤ s → drop at (take s xs) ≡ slice_range xs at s
slice_is xs at s le = let e : s ≡ at + (s - at) = omega (arith, le) in ap (λ n. drop at (take n xs)) e ∙ drop-take at (s - at) xs

regrouped : (out part name rest : List ℕ) → ((out ++ part) ++ name) ++ rest ≡ out ++ (part ++ (name ++ rest))
regrouped out part name rest = append_assoc (out ++ part) name rest ∙ append_assoc out part (name ++ rest)

-- what is before a range, the name and what follows are the text from a place on
pub range_made : (name text out : List ℕ) (r : ByteRange) (rs : List ByteRange) (at : ℕ) → IsNext text at r → Stand text r.end rs
    → ((out ++ slice_range text at r.start) ++ name) ++ drop r.end (renamed name rs text) ≡ out ++ drop at (renamed name (r ∷ rs) text)
unfolding renamed
range_made name text out r rs at next stand =
    let something = next.something in
    let same = front_stays name text rs r.end r.start stand (omega (arith, something)) in
    let long = length-take-le r.start text next.begins.0 in
    let behind = next.behind in
    regrouped out (slice_range text at r.start) name (drop r.end (renamed name rs text))
    ∙ ap (λ part. out ++ (part ++ (name ++ drop r.end (renamed name rs text)))) (sym (slice_is text at r.start behind))
    ∙ ap (λ xs. out ++ xs) (sym (drop-append-le at (take r.start text) (name ++ drop r.end (renamed name rs text)) (omega (arith, behind, long))))
    ∙ ap (λ xs. out ++ drop at xs) (sym (append_assoc (take r.start text) name (drop r.end (renamed name rs text))))
    ∙ ap (λ xs. out ++ drop at ((xs ++ name) ++ drop r.end (renamed name rs text))) (sym same)

-- what was made so far, with one more range
pub range_step : (name text all out out' : List ℕ) (r : ByteRange) (rs rest : List ByteRange) (at : ℕ) → rest ≡ r ∷ rs → Stand text at rest
    → out' ≡ (out ++ slice_range text at r.start) ++ name → out ++ drop at (renamed name rest text) ≡ all → out' ++ drop r.end (renamed name rs text) ≡ all
range_step name text all out out' r rs rest at is stand pushed so_far =
    let both = subst (Stand text at) is stand in
    ap (λ xs. xs ++ drop r.end (renamed name rs text)) pushed
    ∙ range_made name text out r rs at both.0 both.1
    ∙ ap (λ fs. out ++ drop at (renamed name fs text)) (sym is) ∙ so_far

part_len : (text : List ℕ) (at : ℕ) (r : ByteRange) → IsNext text at r → length (slice_range text at r.start) ≡ r.start - at
part_len text at r next =
    let left = length-drop at text in
    let within = next.begins.0 in
    length-take-le (r.start - at) (drop at text) (omega (arith, left, within))

short_sum : (a b c d at s e : ℕ) → d ≡ a + b + c → b ≡ s - at → at ≤ s → s < e → c ≤ 1023 → a ≤ 1023 * at → d ≤ 1023 * e
short_sum a b c d at s e sum part from to short so_far = omega (arith, sum, part, from, to, short, so_far)

-- what was made so far stays short
pub step_short : (text name out out' : List ℕ) (at : ℕ) (r : ByteRange) → IsNext text at r → length name ≤ 1023
    → out' ≡ (out ++ slice_range text at r.start) ++ name → length out ≤ 1023 * at → length out' ≤ 1023 * r.end
step_short text name out out' at r next short pushed so_far =
    short_sum (length out) (length (slice_range text at r.start)) (length name) (length out') at r.start r.end
    (ap length pushed ∙ length-append (out ++ slice_range text at r.start) name ∙ ap (λ n. n + length name) (length-append out (slice_range text at r.start)))
    (part_len text at r next) next.behind next.something short so_far

-- no text is left to edit
pub all_made_of : (name text : List ℕ) → renamed name [] text ≡ text
unfolding renamed
all_made_of name text = refl

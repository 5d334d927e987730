-- Writing a reply piece by piece.
use Rattle.std.proofs.Common.{◌≡◌, ℕ, List, [], ◌++◌, take, drop, length, Option, None, Some, option_map, refl, sym, ap, ◌∙◌, append-nil, append_assoc}
use Rattle.std.proofs.lemmas.List.{take-append-drop}
use Rattle.std.proofs.Math.Seq.{take-append_seam}
use Rattle.io_edges.specs.Wire.{Traffic, after_write}
use Rattle.c11ls.specs.Ties.Turn.{Sent, SentFront}

wrote_nothing : (w : Option Traffic) → w ≡ option_map (after_write []) w
wrote_nothing None = refl
wrote_nothing (Some t) = ap (λ (written : List ℕ). Some (record { left = t.left; taken = t.taken; written = written; marks = t.marks })) (sym (append-nil t.written))

wrote_both : (w : Option Traffic) (a b : List ℕ) → option_map (after_write b) (option_map (after_write a) w) ≡ option_map (after_write (a ++ b)) w
wrote_both None a b = refl
wrote_both (Some t) a b = ap (λ (written : List ℕ). Some (record { left = t.left; taken = t.taken; written = written; marks = t.marks })) (append_assoc t.written a b)

pub sending_begins : (w : Option Traffic) (bytes : List ℕ) → Sent w w bytes bytes
sending_begins w bytes = record { front = []; split = refl; told = wrote_nothing w }

pub sending_turns : (w w' w'' : Option Traffic) (bytes rest : List ℕ) (n : ℕ) → Sent w w' bytes rest →
    w'' ≡ option_map (after_write (take n rest)) w' → Sent w w'' bytes (drop n rest)
sending_turns w w' w'' bytes rest n sent wrote = record {
  front = sent.front ++ take n rest;
  split = sent.split ∙ ap (λ (r : List ℕ). sent.front ++ r) (sym (take-append-drop n rest)) ∙ sym (append_assoc sent.front (take n rest) (drop n rest));
  told = wrote ∙ ap (option_map (after_write (take n rest))) sent.told ∙ wrote_both w sent.front (take n rest);
}

pub sending_ends : (w w' : Option Traffic) (bytes rest : List ℕ) → Sent w w' bytes rest → rest ≡ [] → w' ≡ option_map (after_write bytes) w
sending_ends w w' bytes rest sent none =
    sent.told ∙ ap (λ (b : List ℕ). option_map (after_write b) w) (sym (sent.split ∙ ap (λ (r : List ℕ). sent.front ++ r) none ∙ append-nil sent.front))

pub sending_stops : (w w' w'' : Option Traffic) (bytes rest : List ℕ) → Sent w w' bytes rest → w'' ≡ w' → SentFront w w'' bytes
sending_stops w w' w'' bytes rest sent stays = record {
  size = length sent.front;
  told = stays ∙ sent.told ∙ ap (λ (b : List ℕ). option_map (after_write b) w) (sym (ap (take (length sent.front)) sent.split ∙ take-append_seam sent.front rest));
}

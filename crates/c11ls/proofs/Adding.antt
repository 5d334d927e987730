-- Texts that are written to a sink one after the other.
use Rattle.std.proofs.Common.{◌≡◌, ◌<◌, ◌+◌, ℕ, List, [], ◌++◌, take, drop, length, Option, None, Some, option_map, Result, Ok, Err, refl, sym, ap, ◌∙◌, append-nil, append_assoc, length-append, inl, inr, arith}
use Rattle.std.proofs.lemmas.List.{take-append-drop, take-append-le}
use Rattle.std.proofs.Math.Seq.{take-append_seam, take-append-add}
use Rattle.io_edges.specs.declared.ends.Failed.{Failed}
use Rattle.c11ls.specs.Lines.{Appended, Interrupted, Told, Adding, WritesLine}

added_nothing : (w : Option (List ℕ)) → w ≡ option_map (λ all. all ++ []) w
added_nothing None = refl
added_nothing (Some all) = ap Some (sym (append-nil all))

added_both : (w : Option (List ℕ)) (a b : List ℕ) → option_map (λ all. all ++ b) (option_map (λ all. all ++ a) w) ≡ option_map (λ all. all ++ (a ++ b)) w
added_both None a b = refl
added_both (Some all) a b = ap Some (append_assoc all a b)

pub adding_begins : (w : Option (List ℕ)) (bytes : List ℕ) → Adding bytes bytes w w
adding_begins w bytes = record { front = []; split = refl; told = added_nothing w }

pub adding_turns : (w w' w'' : Option (List ℕ)) (bytes rest : List ℕ) (n : ℕ) → Adding bytes rest w w' →
    w'' ≡ option_map (λ all. all ++ take n rest) w' → Adding bytes (drop n rest) w w''
adding_turns w w' w'' bytes rest n adding wrote = record {
  front = adding.front ++ take n rest;
  split = adding.split ∙ ap (λ (r : List ℕ). adding.front ++ r) (sym (take-append-drop n rest)) ∙ sym (append_assoc adding.front (take n rest) (drop n rest));
  told = wrote ∙ ap (option_map (λ all. all ++ take n rest)) adding.told ∙ added_both w adding.front (take n rest);
}

pub adding_ends : (w w' : Option (List ℕ)) (bytes rest : List ℕ) (f f' : ℕ) → Adding bytes rest w w' → rest ≡ [] → f' ≡ f → Appended bytes w w' f f'
adding_ends w w' bytes rest f f' adding none stays = record {
  told = adding.told ∙ ap (λ (b : List ℕ). option_map (λ all. all ++ b) w) (sym (adding.split ∙ ap (λ (r : List ℕ). adding.front ++ r) none ∙ append-nil adding.front));
  counted = stays;
}

pub adding_stops : (w w' w'' : Option (List ℕ)) (bytes rest : List ℕ) (f f' f'' : ℕ) → Adding bytes rest w w' → w'' ≡ w' → f' ≡ f → f' < f'' → Interrupted bytes w w'' f f''
adding_stops w w' w'' bytes rest f f' f'' adding stays same rose = record {
  size = length adding.front;
  within = omega (arith, ap length adding.split, length-append adding.front rest);
  told = stays ∙ adding.told ∙ ap (λ (b : List ℕ). option_map (λ all. all ++ b) w) (sym (ap (take (length adding.front)) adding.split ∙ take-append_seam adding.front rest));
  counted = omega (arith, same, rose);
}

-- a second text was not reached
pub told_front : (a b : List ℕ) (w w' : Option (List ℕ)) (f f' : ℕ) → Interrupted a w w' f f' → Interrupted (a ++ b) w w' f f'
told_front a b w w' f f' first = record {
  size = first.size;
  within = omega (arith, first.within, length-append a b);
  told = first.told ∙ ap (λ (c : List ℕ). option_map (λ all. all ++ c) w) (sym (take-append-le first.size a b first.within));
  counted = first.counted;
}

-- a second text was written, or a front of it
pub told_both : {T : Type 0} (r : Result T Failed) (a b : List ℕ) (w w' w'' : Option (List ℕ)) (f f' f'' : ℕ) →
    Appended a w w' f f' → Told r b w' w'' f' f'' → Told r (a ++ b) w w'' f f''
told_both (Ok done) a b w w' w'' f f' f'' first then = record {
  told = then.told ∙ ap (option_map (λ all. all ++ b)) first.told ∙ added_both w a b;
  counted = then.counted ∙ first.counted;
}
told_both (Err failed) a b w w' w'' f f' f'' first then = record {
  size = length a + then.size;
  within = omega (arith, then.within, length-append a b);
  told = then.told ∙ ap (option_map (λ all. all ++ take then.size b)) first.told ∙ added_both w a (take then.size b)
      ∙ ap (λ (c : List ℕ). option_map (λ all. all ++ c) w) (sym (take-append-add a b then.size));
  counted = omega (arith, then.counted, first.counted);
}

-- three texts, of which the last one was written, or a front of it
pub told_three : {T : Type 0} (r : Result T Failed) (a b c : List ℕ) (w w1 w2 w3 : Option (List ℕ)) (f f1 f2 f3 : ℕ) →
    Appended a w w1 f f1 → Appended b w1 w2 f1 f2 → Told r c w2 w3 f2 f3 → Told r (a ++ (b ++ c)) w w3 f f3
told_three r a b c w w1 w2 w3 f f1 f2 f3 first second third =
    told_both r a (b ++ c) w w1 w3 f f1 f3 first (told_both r b c w1 w2 w3 f1 f2 f3 second third)

-- the last one was not reached
pub told_middle : (failed : Failed) (a b c : List ℕ) (w w1 w2 : Option (List ℕ)) (f f1 f2 : ℕ) →
    Appended a w w1 f f1 → Interrupted b w1 w2 f1 f2 → Interrupted (a ++ (b ++ c)) w w2 f f2
told_middle failed a b c w w1 w2 f f1 f2 first second =
    told_both {T = Unit {0}} (Err failed) a (b ++ c) w w1 w2 f f1 f2 first (told_front b c w1 w2 f1 f2 second)

pub line_either : {T : Type 0} (r : Result T Failed) (a : List ℕ) (w w' : Option (List ℕ)) (f f' : ℕ) → Told r a w w' f f' → WritesLine a w w' f f'
line_either (Ok done) a w w' f f' told = inl told
line_either (Err failed) a w w' f f' told = inr told

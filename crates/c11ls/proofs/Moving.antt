-- What a call did to its ends, step by step.
use Rattle.std.proofs.Common.{◌≡◌, ◌≤◌, ◌+◌, ℕ, List, [], ◌∷◌, ◌++◌, take, drop, length, map, Option, None, Some, option_map, IfSome, refl, sym, ap, subst, ◌∙◌, append-nil, append_assoc, length-append, add_assoc, add-zero, drop-drop, take-add, arith}
use Rattle.std.proofs.lemmas.List.{map-append, take-append-le}
use Rattle.io_edges.specs.Store.{Entry}
use Rattle.io_edges.specs.Wire.{Traffic, after_read, after_write, mark_of}
use Rattle.io_edges.specs.declared.ends.Mark.{Mark}
use Rattle.lsp_framing.specs.Frames.{frames}
use Rattle.lsp_framing.specs.Standing.{IsEmptyOrOpen}
use Rattle.c11ls.specs.Ties.Going.{Moves, moved, mark_at}
use Rattle.c_session.specs.Handled.{Answered}
use Rattle.c11ls.specs.Plain.{Played, Stop, Exited, Lacks, Through, played, plain}
use Rattle.c11ls.specs.Serve.{IsPrompt, EachPrompt, EachWanted, IsThrough, most_read, ArePortions}
use Rattle.project_conf.specs.declared.options.Options.{Options}
use Rattle.c11ls.proofs.Playing.{IsComplete, play_stays}
use Rattle.c11ls.proofs.Wanting.{none_wanted}

pub answered_both : (a0 a a' : Option (List Entry)) (answers added : List Entry) → Answered answers a0 a → Answered added a a' → Answered (answers ++ added) a0 a'
answered_both None a a' answers added first then = then ∙ ap (option_map (λ told. told ++ added)) first
answered_both (Some told) a a' answers added first then = then ∙ ap (option_map (λ told. told ++ added)) first ∙ ap Some (append_assoc told answers added)

wrote_more : (w0 w w' : Option Traffic) (taken out bytes : List ℕ) (moments : List Mark) →
    w ≡ option_map (moved taken out moments) w0 → w' ≡ option_map (after_write bytes) w → w' ≡ option_map (moved taken (out ++ bytes) moments) w0
wrote_more None w w' taken out bytes moments was wrote = wrote ∙ ap (option_map (after_write bytes)) was
wrote_more (Some t) w w' taken out bytes moments was wrote = wrote ∙ ap (option_map (after_write bytes)) was
    ∙ ap (λ (written : List ℕ). Some (record { left = drop (length taken) t.left; taken = t.taken + length taken; written = written; marks = t.marks ++ map (mark_at t) moments }))
    (append_assoc t.written out bytes)

complete_through : (stop : Stop) → IsThrough stop → IsComplete stop
complete_through (Exited status) through = absurd through
complete_through (Lacks call) through = absurd through
complete_through (Through s) through = tt

played_stays : (options : Options) (bytes : List ℕ) (answers added : List Entry) → IsThrough (played options bytes answers).stop →
    played options bytes (answers ++ added) ≡ played options bytes answers
unfolding played
played_stays options bytes answers added through = play_stays _ _ answers added (complete_through _ through)

prompt_writes : (options : Options) (taken out bytes : List ℕ) (answers added : List Entry) (moment : Mark) →
    IsPrompt options taken out answers moment → IsPrompt options taken (out ++ bytes) (answers ++ added) moment
prompt_writes options taken out bytes answers added moment prompt =
    let same : played options (take moment.taken taken) (answers ++ added) ≡ played options (take moment.taken taken) answers = played_stays options _ answers added prompt.through in
    record {
      within = prompt.within;
      wrote = omega (arith, length-append out bytes, prompt.wrote);
      output = ap (λ (p : Played). p.out) same ∙ prompt.output ∙ sym (take-append-le moment.written out bytes prompt.wrote);
      through = subst (λ (p : Played). IsThrough p.stop) (sym same) prompt.through;
      sound = prompt.sound;
    }

each_writes : (options : Options) (taken out bytes : List ℕ) (answers added : List Entry) (moments : List Mark) →
    EachPrompt options taken out answers moments → EachPrompt options taken (out ++ bytes) (answers ++ added) moments
each_writes options taken out bytes answers added [] each = tt
each_writes options taken out bytes answers added (moment ∷ moments) each =
    (prompt_writes options taken out bytes answers added moment each.0, each_writes options taken out bytes answers added moments each.1)

-- a reply was written, with further answers of the store
pub moves_writing : (options : Options) (taken out bytes : List ℕ) (moments : List Mark) (answers added : List Entry) (w0 w w' : Option Traffic) (a0 a a' : Option (List Entry)) →
    Moves options taken out moments answers w0 w a0 a → w' ≡ option_map (after_write bytes) w → Answered added a a' → EachWanted options taken (answers ++ added) →
    Moves options taken (out ++ bytes) moments (answers ++ added) w0 w' a0 a'
moves_writing options taken out bytes moments answers added w0 w w' a0 a a' did wrote answered wanted = record {
  moves = wrote_more w0 w w' taken out bytes moments did.moves wrote;
  front = did.front;
  answered = answered_both a0 a a' answers added did.answered answered;
  prompt = each_writes options taken out bytes answers added moments did.prompt;
  wanted = wanted;
  portions = did.portions;
}

prompt_reads : (options : Options) (taken bytes out : List ℕ) (answers : List Entry) (moment : Mark) →
    IsPrompt options taken out answers moment → IsPrompt options (taken ++ bytes) out answers moment
prompt_reads options taken bytes out answers moment prompt =
    let same : take moment.taken taken ≡ take moment.taken (taken ++ bytes) = sym (take-append-le moment.taken taken bytes prompt.within) in
    record {
      within = omega (arith, length-append taken bytes, prompt.within);
      wrote = prompt.wrote;
      output = subst (λ (t : List ℕ). (plain options t answers).out ≡ take moment.written out) same prompt.output;
      through = subst (λ (t : List ℕ). IsThrough (played options t answers).stop) same prompt.through;
      sound = subst (λ (t : List ℕ). IsEmptyOrOpen (frames t).rest) same prompt.sound;
    }

each_reads : (options : Options) (taken bytes out : List ℕ) (answers : List Entry) (moments : List Mark) (last : Mark) →
    EachPrompt options taken out answers moments → IsPrompt options (taken ++ bytes) out answers last →
    EachPrompt options (taken ++ bytes) out answers (moments ++ last ∷ [])
each_reads options taken bytes out answers [] last each prompt = (prompt, tt)
each_reads options taken bytes out answers (moment ∷ moments) last each prompt =
    (prompt_reads options taken bytes out answers moment each.0, each_reads options taken bytes out answers moments last each.1 prompt)

-- the moment before a read
abbrev pub moment_at : List ℕ → List ℕ → Mark
moment_at taken out = record { taken = length taken; written = length out }

read_more : (w0 w w' : Option Traffic) (taken out : List ℕ) (b : ℕ) (bs : List ℕ) (moments : List Mark) →
    w ≡ option_map (moved taken out moments) w0 → w' ≡ option_map (after_read (b ∷ bs)) w →
    w' ≡ option_map (moved (taken ++ b ∷ bs) out (moments ++ moment_at taken out ∷ [])) w0
read_more None w w' taken out b bs moments was read = read ∙ ap (option_map (after_read (b ∷ bs))) was
read_more (Some t) w w' taken out b bs moments was read =
    let both : length (taken ++ b ∷ bs) ≡ length taken + length (b ∷ bs) = length-append taken (b ∷ bs) in
    let left_is : drop (length (b ∷ bs)) (drop (length taken) t.left) ≡ drop (length (taken ++ b ∷ bs)) t.left =
    drop-drop (length (b ∷ bs)) (length taken) t.left ∙ ap (λ n. drop n t.left) (sym both) in
    let taken_is : (t.taken + length taken) + length (b ∷ bs) ≡ t.taken + length (taken ++ b ∷ bs) =
    add_assoc t.taken (length taken) (length (b ∷ bs)) ∙ ap (λ n. t.taken + n) (sym both) in
    let mark_is : mark_of (moved taken out moments t) ≡ mark_at t (moment_at taken out) =
    ap (λ n. record { taken = t.taken + length taken; written = n }) (length-append t.written out) in
    let marks_are : (t.marks ++ map (mark_at t) moments) ++ mark_of (moved taken out moments t) ∷ [] ≡ t.marks ++ map (mark_at t) (moments ++ moment_at taken out ∷ []) =
    ap (λ (m : Mark). (t.marks ++ map (mark_at t) moments) ++ m ∷ []) mark_is
    ∙ append_assoc t.marks (map (mark_at t) moments) (mark_at t (moment_at taken out) ∷ [])
    ∙ ap (λ (ms : List Mark). t.marks ++ ms) (sym (map-append (mark_at t) moments (moment_at taken out ∷ []))) in
    read ∙ ap (option_map (after_read (b ∷ bs))) was
    ∙ ap (λ (left : List ℕ). Some (record { left = left; taken = (t.taken + length taken) + length (b ∷ bs); written = t.written ++ out; marks = (t.marks ++ map (mark_at t) moments) ++ mark_of (moved taken out moments t) ∷ [] })) left_is
    ∙ ap (λ n. Some (record { left = drop (length (taken ++ b ∷ bs)) t.left; taken = n; written = t.written ++ out; marks = (t.marks ++ map (mark_at t) moments) ++ mark_of (moved taken out moments t) ∷ [] })) taken_is
    ∙ ap (λ (ms : List Mark). Some (record { left = drop (length (taken ++ b ∷ bs)) t.left; taken = t.taken + length (taken ++ b ∷ bs); written = t.written ++ out; marks = ms })) marks_are

front_more : (w0 w : Option Traffic) (taken out bytes : List ℕ) (moments : List Mark) →
    w ≡ option_map (moved taken out moments) w0 → IfSome w0 (λ t. take (length taken) t.left ≡ taken) → IfSome w (λ t. take (length bytes) t.left ≡ bytes) →
    IfSome w0 (λ t. take (length (taken ++ bytes)) t.left ≡ taken ++ bytes)
front_more None w taken out bytes moments was front next = tt
front_more (Some t) w taken out bytes moments was front next =
    let here : take (length bytes) (drop (length taken) t.left) ≡ bytes = subst (λ (o : Option Traffic). IfSome o (λ t. take (length bytes) t.left ≡ bytes)) was next in
    ap (λ n. take n t.left) (length-append taken bytes) ∙ take-add (length taken) (length bytes) t.left
    ∙ ap (λ (a : List ℕ). a ++ take (length bytes) (drop (length taken) t.left)) front ∙ ap (λ (b : List ℕ). taken ++ b) here

-- one more read
portions_more : (most : ℕ) (moments : List Mark) (total n : ℕ) (moment : Mark) → moment.taken ≡ total → n ≤ most_read → ArePortions most moments total →
    ArePortions most (moments ++ moment ∷ []) (total + n)
portions_more most [] total n moment is small within = (omega (arith, is, within), omega (arith, is, small))
portions_more most (first ∷ moments) total n moment is small each = (each.0, portions_more (first.taken + most_read) moments total n moment is small each.1)

-- bytes were taken, behind a moment that was prompt
pub moves_reading : (options : Options) (taken out : List ℕ) (b : ℕ) (bs : List ℕ) (moments : List Mark) (answers : List Entry) (w0 w w' : Option Traffic) (a0 a : Option (List Entry)) →
    Moves options taken out moments answers w0 w a0 a → w' ≡ option_map (after_read (b ∷ bs)) w → IfSome w (λ t. take (length (b ∷ bs)) t.left ≡ b ∷ bs) →
    IsPrompt options (taken ++ b ∷ bs) out answers (moment_at taken out) → EachWanted options (taken ++ b ∷ bs) answers → length (b ∷ bs) ≤ most_read →
    Moves options (taken ++ b ∷ bs) out (moments ++ moment_at taken out ∷ []) answers w0 w' a0 a
moves_reading options taken out b bs moments answers w0 w w' a0 a did read next prompt wanted small = record {
  moves = read_more w0 w w' taken out b bs moments did.moves read;
  front = front_more w0 w taken out (b ∷ bs) moments did.moves did.front next;
  answered = did.answered;
  prompt = each_reads options taken (b ∷ bs) out answers moments (moment_at taken out) did.prompt prompt;
  wanted = wanted;
  portions = subst (ArePortions 0 (moments ++ moment_at taken out ∷ [])) (sym (length-append taken (b ∷ bs)))
      (portions_more 0 moments (length taken) (length (b ∷ bs)) (moment_at taken out) refl small did.portions);
}

begins_empty : (w : Option Traffic) → w ≡ option_map (moved [] [] []) w
begins_empty None = refl
begins_empty (Some t) =
    ap (λ n. Some (record { left = t.left; taken = n; written = t.written; marks = t.marks })) (sym (add-zero t.taken))
    ∙ ap (λ (written : List ℕ). Some (record { left = t.left; taken = t.taken + 0; written = written; marks = t.marks })) (sym (append-nil t.written))
    ∙ ap (λ (ms : List Mark). Some (record { left = t.left; taken = t.taken + 0; written = t.written ++ []; marks = ms })) (sym (append-nil t.marks))

nothing_taken : (w : Option Traffic) → IfSome w (λ t. take 0 t.left ≡ [])
nothing_taken None = tt
nothing_taken (Some t) = refl

-- a call that did nothing yet
pub moves_nothing : (options : Options) (w : Option Traffic) (a : Option (List Entry)) → Answered [] a a → Moves options [] [] [] [] w w a a
moves_nothing options w a answered = record { moves = begins_empty w; front = nothing_taken w; answered = answered; prompt = tt; wanted = none_wanted options []; portions = omega arith }

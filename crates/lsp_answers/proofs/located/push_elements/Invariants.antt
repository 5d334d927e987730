use Rattle.std.proofs.Common.{◌≡◌, ◌++◌, false, length, map, string_bytes}
use Rattle.serde_json.specs.View.{items_of}
use Rattle.serde_json.specs.Written.{items_text}
use Rattle.lsp_answers.specs.Ties.Forms.{element_data}
use Rattle.lsp_answers.proofs.located.push_elements.Given as goal

abbrev pub invariant-toks : goal.invariant-toks
invariant-toks l = record {
  made : string_bytes l.body ++ items_text l.later (items_of (map (element_data l.fn.form) l.rest))
      ≡ string_bytes l.fn.body ++ items_text false (items_of (map (element_data l.fn.form) l.fn.toks));
}

abbrev pub decreases-toks : goal.decreases-toks
decreases-toks l = length l.rest

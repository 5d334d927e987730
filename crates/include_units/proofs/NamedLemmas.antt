-- The tokens of a text of the server's own, by its name.
use Rattle.std.proofs.Common.{◌≡◌, ℕ, true, false, cond, List, Some, None, option_map, bytes_eq, codes, ap, ◌∙◌, sym}
use Rattle.project_conf.specs.declared.options.Define.{Define}
use Rattle.tok_data.specs.declared.tokens.PpToken.{PpToken}
use Rattle.include_units.specs.Named.{library_named, tokens_named}
use Rattle.include_units.specs.Own.{own_tokens}
use Rattle.include_units.specs.Units.{command_text}

module _ (defines : List Define) (name : List ℕ) where
  pub command_named : (tokens : List PpToken) → bytes_eq name (codes "<command>") ≡ true → tokens ≡ own_tokens (command_text defines) → Some tokens ≡ tokens_named defines name
  unfolding tokens_named
  command_named tokens is own =
      ap Some own ∙ ap (λ b. cond b (Some (own_tokens (command_text defines))) (option_map own_tokens (library_named name))) (sym is)

  pub header_named : (text : List ℕ) (tokens : List PpToken) → bytes_eq name (codes "<command>") ≡ false → Some text ≡ library_named name → tokens ≡ own_tokens text →
      Some tokens ≡ tokens_named defines name
  unfolding tokens_named
  header_named text tokens other found own =
      ap Some own ∙ ap (option_map own_tokens) found
      ∙ ap (λ b. cond b (Some (own_tokens (command_text defines))) (option_map own_tokens (library_named name))) (sym other)

  pub none_named : bytes_eq name (codes "<command>") ≡ false → None ≡ library_named name → None ≡ tokens_named defines name
  unfolding tokens_named
  none_named other found =
      ap (option_map own_tokens) found ∙ ap (λ b. cond b (Some (own_tokens (command_text defines))) (option_map own_tokens (library_named name))) (sym other)

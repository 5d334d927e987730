use Rattle.std.proofs.Common.{ℕ, List, ap, ◌∙◌, map, option_map, bytes_eq}
use Rattle.std.specs.List.{find}
use Rattle.lib_texts.specs.declared.Header.{Header}
use Rattle.lib_texts.specs.Texts.{header_named, headers}
use Rattle.lib_texts.proofs.Tables.{found_in}
use Rattle.lib_texts.proofs.header_named.Goals as goal

pub returns : goal.returns
unfolding header_named headers
returns c =
    c.find_in.ensures
    ∙ found_in (λ e. e.0.now) (λ e. e.1) c.args.name.now c.as_slice.result.now
    ∙ ap (λ xs. option_map {T = List ℕ × Header} (λ e. e.1) (find (λ e. bytes_eq e.0 c.args.name.now) (map (λ e. (e.0.now, e.1)) xs))) c.as_slice.ensures

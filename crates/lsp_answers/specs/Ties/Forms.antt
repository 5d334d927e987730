-- The forms in which tokens are listed.
use Rattle.serde_json.specs.Data.{Data}
use Rattle.lsp_answers.specs.Located.{location_data, symbol_data}
use Rattle.lsp_answers.specs.declared.located.Located.{Located}
use Rattle.lsp_answers.specs.declared.located.Form.{Form}
use Rattle.lsp_answers.specs.declared.located.Form.TheVariants.{Location, Symbol}

abbrev pub element_data : Form → Located → Data
element_data Location = location_data
element_data Symbol = symbol_data

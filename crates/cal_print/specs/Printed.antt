-- What printed texts of designs are for. This project's.
use Rattle.hw_names.specs.Name.{Text}
use Rattle.cal_ast.specs.Tree.{Design}
use Rattle.cal_parse.specs.Spelling.{SpellsDesign}

-- where some text spells the design, the printed text spells it too
abbrev pub PrintsWhatIsRead : (printed : Text) → Design → Type 0
PrintsWhatIsRead printed design = (other : Text) → SpellsDesign other design → SpellsDesign printed design

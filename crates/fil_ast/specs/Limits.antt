-- The limit on the offsets and the delays of a design. This project's.
use Rattle.std.specs.Prelude.{◌≤◌, All}
use Rattle.fil_ast.specs.declared.tree.Time.{Time}
use Rattle.fil_ast.specs.declared.tree.EventDef.{EventDef}
use Rattle.fil_ast.specs.declared.tree.FilPort.{FilPort}
use Rattle.fil_ast.specs.declared.tree.FilComp.{FilComp}
use Rattle.fil_ast.specs.declared.tree.FilDesign.{FilDesign}
use Rattle.fil_ast.specs.declared.tree.Stmt.{Stmt}
use Rattle.fil_ast.specs.declared.tree.Stmt.TheVariants as stmts
use Rattle.hw_limits.specs.declared.limits.TheConstants.{MOST_OFFSET}

abbrev pub KeepsDelayLimit : EventDef → Type 0
KeepsDelayLimit e = e.delay ≤ MOST_OFFSET

abbrev pub KeepsOffsetLimit : FilPort → Type 0
KeepsOffsetLimit p = (p.from.plus ≤ MOST_OFFSET) × (p.to.plus ≤ MOST_OFFSET)

abbrev pub KeepsTimeLimit : Time → Type 0
KeepsTimeLimit t = t.plus ≤ MOST_OFFSET

abbrev pub KeepsStatementLimit : Stmt → Type 0
KeepsStatementLimit (stmts.New name made params) = Unit {0}
KeepsStatementLimit (stmts.Call name inst at args) = All KeepsTimeLimit at.items
KeepsStatementLimit (stmts.Both name made params at args) = All KeepsTimeLimit at.items
KeepsStatementLimit (stmts.Set dst value) = Unit {0}

-- the offsets and delays of the component are small
pub record KeepsLimits (c : FilComp) : Type 0 where
  pub events : All KeepsDelayLimit c.events.items
  pub ins : All KeepsOffsetLimit c.ins.items
  pub outs : All KeepsOffsetLimit c.outs.items
  pub body : All KeepsStatementLimit c.body.items

abbrev pub HasSmallOffsets : FilDesign → Type 0
HasSmallOffsets d = All KeepsLimits d.comps.items

-- The pieces of a component keep C2 and C4 to C6: what they read are known sources of one bit, and what drives them has one bit too.
use Rattle.std.proofs.Common.{◌≡◌, ℕ, ◌<◌, ◌^◌, List, [], Option, Some, None, refl, sym, ap, ap₂, subst, ◌∙◌, arith}
use Rattle.std.specs.Prelude.{All, codes, is_some, option_map}
use Rattle.std.proofs.lemmas.List.Elements.{All-nil, All-cons, All-weaker}
use Rattle.hw_prims.specs.Table.{pin, inputs_of, outputs_of}
use Rattle.hw_prims.specs.declared.prim.Primitive.TheVariants.{StdReg}
use Rattle.net_core.specs.Graph.{source_ports, guard_ports, option_ports}
use Rattle.net_core.specs.Guard.{GuardTree, GuardTrees, Reads, Compares, Negates, AllOf, AnyOf, NoGuards, MoreGuards}
use Rattle.net_core.specs.declared.net.Src.{Src}
use Rattle.net_core.specs.declared.net.Src.TheVariants.{Port, Lit}
use Rattle.cal_ast.specs.Holes.{IsGuardOf}
use Rattle.cal_ast.specs.Naming.{IsKnownPort, NamesKnown}
use Rattle.cal_ast.specs.Ports.{Input, Output, SidedPin, both_sides, ports_at, port_named, port_in, width_in, cell_inputs, cell_outputs}
use Rattle.cal_ast.specs.Sides.{IsDestination, IsSource, ReadsSources}
use Rattle.cal_ast.specs.Tree.{PortName, port_of, Assignment, Component, Design}
use Rattle.cal_ast.specs.Typing.{IsWidth, LiteralFits, source_width, GuardAgrees, GuardsAgree, OptionAgrees, WidthsAgree}
use Rattle.cal_lower.specs.inside.Pieces.{Kind, Wire, Register, Piece, piece_set, enables_piece, piece_sets, shown}
use Rattle.cal_lower.proofs.BitLemmas.{IsBitSource, IsBitGuard, AreBitGuards, IsBitOption, bit_ports, IsBitPiece}
use Rattle.cal_lower.proofs.ListLemmas.{Each}
use Rattle.cal_lower.proofs.LoweredLemmas.{prim_for}

-- ---- the ports of a wire and of a register

kind_out : (kind : Kind) → port_named (both_sides (inputs_of (prim_for kind)) (outputs_of (prim_for kind))) (codes "out") ≡ Some (record { side = Output; pin = pin (codes "out") 1 })
unfolding inputs_of outputs_of
kind_out Wire = refl
kind_out Register = refl

kind_in : (kind : Kind) → port_named (both_sides (inputs_of (prim_for kind)) (outputs_of (prim_for kind))) (codes "in") ≡ Some (record { side = Input; pin = pin (codes "in") 1 })
unfolding inputs_of outputs_of
kind_in Wire = refl
kind_in Register = refl

register_enable : port_named (both_sides (inputs_of (StdReg 1)) (outputs_of (StdReg 1))) (codes "write_en") ≡ Some (record { side = Input; pin = pin (codes "write_en") 1 })
unfolding inputs_of outputs_of
register_enable = refl

pub is_width_one : IsWidth 1
is_width_one = (omega arith, omega arith)

module _ (design : Design) (d : Component) where
  -- a source of one bit
  pub record IsBitPort (q : PortName) : Type 0 where
    pub known : IsKnownPort design d q
    pub width : width_in design d q ≡ Some 1
    pub source : IsSource design d q

  literal_fits : (width value : ℕ) → width ≡ 1 → value < 2 → LiteralFits (Lit width value)
  literal_fits width value is less =
      let L : ℕ → Type 0 = λ w. IsWidth w × (value < 2 ^ w) in subst L (sym is) (is_width_one, less)

  mutual
    bit_agrees : (g : GuardTree PortName) → IsBitGuard IsBitPort g → GuardAgrees design d g
    bit_agrees (Reads (Port p)) is = (tt, is.width)
    bit_agrees (Reads (Lit width value)) is = (literal_fits width value is.0 is.1, ap Some is.0)
    bit_agrees (Compares op a b) is = absurd is
    bit_agrees (Negates g) is = bit_agrees g is
    bit_agrees (AllOf gs) is = bits_agree gs is
    bit_agrees (AnyOf gs) is = bits_agree gs is

    bits_agree : (gs : GuardTrees PortName) → AreBitGuards IsBitPort gs → GuardsAgree design d gs
    bits_agree NoGuards is = tt
    bits_agree (MoreGuards g gs) is = (bit_agrees g is.0, bits_agree gs is.1)

  -- the piece reads known sources, and one bit drives it
  pub record IsGoodPiece (p : Piece) : Type 0 where
    pub guard_known : All (IsKnownPort design d) (option_ports p.guard)
    pub guard_agrees : OptionAgrees design d p.guard
    pub guard_sources : All (IsSource design d) (option_ports p.guard)
    pub known : All (IsKnownPort design d) (source_ports p.src)
    pub literal : LiteralFits p.src
    pub width : source_width design d p.src ≡ Some 1
    pub sources : All (IsSource design d) (source_ports p.src)

  known_of : (qs : List PortName) → All IsBitPort qs → All (IsKnownPort design d) qs
  known_of qs all = All-weaker IsBitPort (IsKnownPort design d) (λ q is. is.known) qs all

  sources_of : (qs : List PortName) → All IsBitPort qs → All (IsSource design d) qs
  sources_of qs all = All-weaker IsBitPort (IsSource design d) (λ q is. is.source) qs all

  pub guard_from_bits : (g : GuardTree PortName) → IsBitGuard IsBitPort g → IsGuardOf design d g
  guard_from_bits g is = record {
    known = known_of (guard_ports g) (bit_ports IsBitPort g is);
    widths = bit_agrees g is;
    sources = sources_of (guard_ports g) (bit_ports IsBitPort g is);
  }

  option_bits : (g : Option (GuardTree PortName)) → IsBitOption IsBitPort g → All IsBitPort (option_ports g) × OptionAgrees design d g
  option_bits None is = (All-nil IsBitPort, tt)
  option_bits (Some g) is = (bit_ports IsBitPort g is, bit_agrees g is)

  source_bits : (s : Src PortName) → IsBitSource IsBitPort s → All IsBitPort (source_ports s) × LiteralFits s × (source_width design d s ≡ Some 1)
  source_bits (Port p) is = (All-cons IsBitPort p [] is (All-nil IsBitPort), tt, is.width)
  source_bits (Lit width value) is = (All-nil IsBitPort, literal_fits width value is.0 is.1, ap Some is.0)

  pub good_from_bits : (p : Piece) → IsBitPiece IsBitPort p → IsGoodPiece p
  good_from_bits p is =
      let guard = option_bits p.guard is.0 in
      let src = source_bits p.src is.1 in
      record {
        guard_known = known_of (option_ports p.guard) guard.0;
        guard_agrees = guard.1;
        guard_sources = sources_of (option_ports p.guard) guard.0;
        known = known_of (source_ports p.src) src.0;
        literal = src.1;
        width = src.2;
        sources = sources_of (source_ports p.src) src.0;
      }

  -- an assignment keeps C2 and C4 to C6
  pub record IsGoodSet (a : Assignment) : Type 0 where
    pub names : NamesKnown design d a
    pub widths : WidthsAgree design d a
    pub drives : IsDestination design d a.dst
    pub reads : ReadsSources design d a

  -- ---- the ports of a piece

  module _ (p : Piece) (inputs : cell_inputs design d p.name ≡ inputs_of (prim_for p.kind)) (outputs : cell_outputs design d p.name ≡ outputs_of (prim_for p.kind)) where
    ports_are : ports_at design d (Some p.name) ≡ both_sides (inputs_of (prim_for p.kind)) (outputs_of (prim_for p.kind))
    ports_are = ap₂ both_sides inputs outputs

    out_is : port_in design d (shown p.name) ≡ Some (record { side = Output; pin = pin (codes "out") 1 })
    out_is = ap (λ ports. port_named ports (codes "out")) ports_are ∙ kind_out p.kind

    in_is : port_in design d (port_of p.name (codes "in")) ≡ Some (record { side = Input; pin = pin (codes "in") 1 })
    in_is = ap (λ ports. port_named ports (codes "in")) ports_are ∙ kind_in p.kind

    enable_is : p.kind ≡ Register → port_in design d (port_of p.name (codes "write_en")) ≡ Some (record { side = Input; pin = pin (codes "write_en") 1 })
    enable_is is =
        ap (λ ports. port_named ports (codes "write_en")) ports_are
        ∙ ap (λ kind. port_named (both_sides (inputs_of (prim_for kind)) (outputs_of (prim_for kind))) (codes "write_en")) is ∙ register_enable

    -- what it shows is a source of one bit
    pub shown_bit : IsBitPort (shown p.name)
    shown_bit = record {
      known = ap (λ (o : Option SidedPin). is_some o) out_is;
      width = ap (option_map (λ (q : SidedPin). q.pin.width)) out_is;
      source = ap (option_map (λ (q : SidedPin). q.side)) out_is;
    }

    -- ---- its assignments

    set_good : IsGoodPiece p → IsGoodSet (piece_set p)
    set_good good = record {
      names = record { dst = ap (λ (o : Option SidedPin). is_some o) in_is; guard = good.guard_known; src = good.known };
      widths = record { literal = good.literal; sides = ap (option_map (λ (q : SidedPin). q.pin.width)) in_is ∙ sym good.width; guard = good.guard_agrees };
      drives = record { side = ap (option_map (λ (q : SidedPin). q.side)) in_is; not_done = λ full. refl };
      reads = (good.guard_sources, good.sources);
    }

    enable_good : p.kind ≡ Register → IsGoodSet (record { dst = port_of p.name (codes "write_en"); guard = None; src = Lit 1 1 })
    enable_good is = record {
      names = record { dst = ap (λ (o : Option SidedPin). is_some o) (enable_is is); guard = All-nil (IsKnownPort design d); src = All-nil (IsKnownPort design d) };
      widths = record { literal = literal_fits 1 1 refl (omega arith); sides = ap (option_map (λ (q : SidedPin). q.pin.width)) (enable_is is); guard = tt };
      drives = record { side = ap (option_map (λ (q : SidedPin). q.side)) (enable_is is); not_done = λ full. refl };
      reads = (All-nil (IsSource design d), All-nil (IsSource design d));
    }

    pub sets_good : IsGoodPiece p → Each IsGoodSet (piece_sets p)
    sets_good good = (set_good good, by p.kind refl)
      where
        by : (k : Kind) → p.kind ≡ k → Each IsGoodSet (enables_piece k p.name)
        by Wire is = tt
        by Register is = (enable_good is, tt)

-- A chain that grows by one register at a time, in a list of names that grows too.
use Rattle.std.proofs.Common.{◌≡◌, ℕ, ◌+◌, ◌^◌, ◌<◌, List, [], ◌∷◌, ◌++◌, length, map, Option, Some, None, IfSome, All, Contains, slice_get, refl, sym, ap, ap₂, ◌∙◌, append_assoc, arith}
use Rattle.std.specs.Option.{option_map}
use Rattle.std.proofs.lemmas.List.{map-append, length-append}
use Rattle.std.proofs.lemmas.List.Elements.{All-nil, All-push, All-weaker, All-contains}
use Rattle.hw_names.proofs.NameLemmas.{AreDistinct-push, Contains-slice_get, text_of-slice_get, text_of-KeepsTexts}
use Rattle.hw_names.specs.Name.{Text, IsPlain, AreDistinct, KeepsTexts, text_of}
use Rattle.hw_names.specs.declared.names.NameId.{NameId}
use Rattle.net_core.specs.Numbers.{IsNumberOf}
use Rattle.cal_ast.specs.Numbers.{PortHasNumbers}
use Rattle.cal_ast.specs.Tree.{PortName, cell_tree, assignment_tree, port_tree}
use Rattle.cal_ast.specs.declared.tree.CalPort.{CalPort}
use Rattle.fil_fsm.specs.Chain.{register, bit_of, takes, chain_sets, chain_bits, IsShiftRegister}
use Rattle.fil_promise.specs.Refines.{IsGenerated}
use Rattle.fil_fsm.specs.Registers.{generated_name, AreRegisterTexts}
use Rattle.fil_fsm.specs.declared.register.RegisterTexts.{RegisterTexts}
use Rattle.fil_fsm.specs.declared.shift.FsmParts.{FsmParts}
use Rattle.fil_fsm.proofs.FreshLemmas.{IsPlain-generated_name, IsGenerated-generated_name, KeepsTexts-refl, KeepsTexts-trans, Contains-KeepsTexts, AreRegisterTexts-KeepsTexts}

-- ---- chains grow at the end

abbrev pub last_bit : PortName → List Text → PortName
last_bit bit [] = bit
last_bit bit (name ∷ registers) = last_bit (bit_of name) registers

last_bit-push : (bit : PortName) (registers : List Text) (name : Text) → last_bit bit (registers ++ name ∷ []) ≡ bit_of name
last_bit-push bit [] name = refl
last_bit-push bit (first ∷ registers) name = last_bit-push (bit_of first) registers name

chain_sets-push : (bit : PortName) (registers : List Text) (name : Text) → chain_sets bit (registers ++ name ∷ []) ≡ chain_sets bit registers ++ takes (last_bit bit registers) name
chain_sets-push bit [] name = refl
chain_sets-push bit (first ∷ registers) name =
    ap (λ sets. takes bit first ++ sets) (chain_sets-push (bit_of first) registers name) ∙ sym (append_assoc (takes bit first) (chain_sets (bit_of first) registers) (takes (last_bit (bit_of first) registers) name))

-- the texts of a port stay where its numbers are known and the names keep their texts
port_tree-KeepsTexts : (old new : List Text) (p : CalPort) → PortHasNumbers old p → KeepsTexts old new → port_tree new p ≡ port_tree old p
port_tree-KeepsTexts old new p known kept = ap₂ (λ cell pin. record { cell = cell; pin = pin }) (cell p.cell known.0) (text_of-KeepsTexts old new p.port kept known.1)
  where
    cell : (c : Option NameId) → IfSome c (IsNumberOf old) → option_map (text_of new) c ≡ option_map (text_of old) c
    cell None known = refl
    cell (Some id) known = ap Some (text_of-KeepsTexts old new id kept known)

-- ---- what stands after some registers

-- the parts are a chain of n bits, of which this is the last, in each list that keeps the texts of these names
pub record IsGrown (old names : List Text) (go : CalPort) (parts : FsmParts) (bit : CalPort) (n : ℕ) : Type 0 where
  pub registers : List Text
  pub count : length registers + 1 ≡ n
  pub cells : (later : List Text) → KeepsTexts names later → map (cell_tree later) parts.cells.items ≡ map register registers
  pub sets : (later : List Text) → KeepsTexts names later → map (assignment_tree later) parts.sets.items ≡ chain_sets (port_tree old go) registers
  pub bits : (later : List Text) → KeepsTexts names later → map (port_tree later) parts.bits.items ≡ chain_bits (port_tree old go) registers
  pub last : (later : List Text) → KeepsTexts names later → port_tree later bit ≡ last_bit (port_tree old go) registers
  pub generated : All (λ name. IsGenerated name × IsPlain name) registers
  pub fresh : All (λ name. ¬ Contains old name) registers
  pub present : All (Contains names) registers
  pub distinct : AreDistinct registers

pub IsGrown-source : (old names : List Text) (go : CalPort) (parts : FsmParts) → PortHasNumbers old go → KeepsTexts old names
    → parts.cells.items ≡ [] → parts.sets.items ≡ [] → parts.bits.items ≡ go ∷ [] → IsGrown old names go parts go 1
IsGrown-source old names go parts known kept cells sets bits = record {
  registers = [];
  count = refl;
  cells = λ later more. rw cells refl;
  sets = λ later more. rw sets refl;
  bits = λ later more. rw bits (ap (λ p. p ∷ []) (port_tree-KeepsTexts old later go known (KeepsTexts-trans old names later kept more)));
  last = λ later more. port_tree-KeepsTexts old later go known (KeepsTexts-trans old names later kept more);
  generated = All-nil (λ name. IsGenerated name × IsPlain name);
  fresh = All-nil (λ name. ¬ Contains old name);
  present = All-nil (Contains names);
  distinct = λ i j d below within. absurd (omega arith);
}

module _ (texts : RegisterTexts) (id : NameId) (from : CalPort) (before after : FsmParts) (next : CalPort) where
  -- the parts have one register more, after the bit
  pub record IsAdded : Type 0 where
    pub cells : (names : List Text) → AreRegisterTexts names texts → map (cell_tree names) after.cells.items ≡ map (cell_tree names) before.cells.items ++ register (text_of names id) ∷ []
    pub sets : (names : List Text) → AreRegisterTexts names texts → map (assignment_tree names) after.sets.items ≡ map (assignment_tree names) before.sets.items ++ takes (port_tree names from) (text_of names id)
    pub bits : (names : List Text) → AreRegisterTexts names texts → map (port_tree names) after.bits.items ≡ map (port_tree names) before.bits.items ++ bit_of (text_of names id) ∷ []
    pub bit : (names : List Text) → AreRegisterTexts names texts → port_tree names next ≡ bit_of (text_of names id)

  pub IsGrown-more : (old names new : List Text) (go : CalPort) (n number : ℕ) → IsGrown old names go before from n → IsAdded → AreRegisterTexts names texts → KeepsTexts old names → KeepsTexts names new
      → number < 2 ^ 64 → slice_get new id.0 ≡ Some (generated_name number) → ¬ Contains names (generated_name number) → IsGrown old new go after next (n + 1)
  IsGrown-more old names new go n number grown added are kept more small there absent =
      let name = generated_name number in
      let source = port_tree old go in
      let are_later = λ (later : List Text) (keeps : KeepsTexts new later). AreRegisterTexts-KeepsTexts names later texts (KeepsTexts-trans names new later more keeps) are in
      let text = λ (later : List Text) (keeps : KeepsTexts new later). text_of-slice_get later id name (keeps _ _ there) in
      let keeps_on = λ (later : List Text) (keeps : KeepsTexts new later). KeepsTexts-trans names new later more keeps in
      record {
        registers = grown.registers ++ name ∷ [];
        count = omega (arith, length-append grown.registers (name ∷ []), grown.count);
        cells = λ later keeps.
            added.cells later (are_later later keeps) ∙ ap₂ (λ cells t. cells ++ register t ∷ []) (grown.cells later (keeps_on later keeps)) (text later keeps) ∙ sym (map-append register grown.registers (name ∷ []));
        sets = λ later keeps.
            added.sets later (are_later later keeps) ∙ ap₂ (λ sets b. sets ++ takes b (text_of later id)) (grown.sets later (keeps_on later keeps)) (grown.last later (keeps_on later keeps))
            ∙ ap (λ t. chain_sets source grown.registers ++ takes (last_bit source grown.registers) t) (text later keeps) ∙ sym (chain_sets-push source grown.registers name);
        bits = λ later keeps.
            added.bits later (are_later later keeps) ∙ ap₂ (λ bits t. bits ++ bit_of t ∷ []) (grown.bits later (keeps_on later keeps)) (text later keeps)
            ∙ ap (λ bits. source ∷ bits) (sym (map-append bit_of grown.registers (name ∷ [])));
        last = λ later keeps. added.bit later (are_later later keeps) ∙ ap bit_of (text later keeps) ∙ sym (last_bit-push source grown.registers name);
        generated = All-push (λ other. IsGenerated other × IsPlain other) grown.registers name grown.generated (IsGenerated-generated_name number small, IsPlain-generated_name number small);
        fresh = All-push (λ other. ¬ Contains old other) grown.registers name grown.fresh (λ was. absent (Contains-KeepsTexts old names name kept was));
        present = All-push (Contains new) grown.registers name (All-weaker (Contains names) (Contains new) (λ other in'. Contains-KeepsTexts names new other more in') grown.registers grown.present) (Contains-slice_get new id.0 name there);
        distinct = AreDistinct-push grown.registers name grown.distinct (λ was. absent (All-contains (Contains names) grown.registers name grown.present was));
      }

pub IsShiftRegister-grown : (old new : List Text) (go bit : CalPort) (n : ℕ) (parts : FsmParts) → PortHasNumbers old go → KeepsTexts old new → IsGrown old new go parts bit n → IsShiftRegister old new go n parts
IsShiftRegister-grown old new go bit n parts known kept grown =
    let same = port_tree-KeepsTexts old new go known kept in
    let stays = KeepsTexts-refl new in
    record {
      registers = grown.registers;
      count = grown.count;
      cells = grown.cells new stays;
      sets = grown.sets new stays ∙ ap (λ source. chain_sets source grown.registers) (sym same);
      bits = grown.bits new stays ∙ ap (λ source. chain_bits source grown.registers) (sym same);
      generated = grown.generated;
      fresh = grown.fresh;
      distinct = grown.distinct;
    }

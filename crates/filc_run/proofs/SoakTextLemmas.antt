-- The design is written, so its canonical text spells it; it keeps the rules and the limits, so the text gives it; and its top component is the second.
-- This project's.
use Rattle.std.proofs.Common.{◌≡◌, ℕ, zero, suc, ◌+◌, ◌*◌, ◌<◌, ◌^◌, List, [], ◌∷◌, codes, get_or, Option, None, Some, Result, Ok, Err, refl, ap, ◌∙◌, arith, inr, ⊎_elim}
use Rattle.std.specs.List.{AllByRecursion}
use Rattle.std.specs.Prelude.{IfErr, IfOk, slice_get}
use Rattle.std.proofs.lemmas.Option.{same_Some}
use Rattle.hw_names.specs.Name.{Text}
use Rattle.hw_prims.specs.Table.{inputs_of, is_made, outputs_of, prim_names, prim_of, with_params}
use Rattle.fil_ast.specs.Naming.{component_names}
use Rattle.fil_ast.specs.Top.{IsTop}
use Rattle.fil_ast.specs.Tree.{ValueTree, InputValue, Literal, New, Call, Connect, Component, Statement, DataPort, design_of}
use Rattle.fil_parse.proofs.Designs.{one_tree}
use Rattle.fil_parse.proofs.Shown.{design_shown}
use Rattle.fil_parse.specs.Spelling.{SpellsDesign}
use Rattle.fil_parse.specs.Written.{IsFilName, TimeIsWritten, PortIsWritten, ValueIsWritten, GivingIsWritten, StatementIsWritten, ComponentIsWritten, DesignIsWritten}
use Rattle.filc_load.proofs.FilLemmas.{given_fil_not_refused}
use Rattle.filc_load.specs.Built.{IsFilBuiltFrom, IsFilReady, IsUnbuilt}
use Rattle.filc_load.specs.FilFile.{GivesFil, IsLight}
use Rattle.filc_load.specs.declared.fil_file.FilBuilt.{FilBuilt}
use Rattle.filc_stop.specs.Stops.{answer_of, refusal_line}
use Rattle.filc_stop.specs.declared.language.Language.TheVariants.{Filament}
use Rattle.filc_stop.specs.declared.stop.Stop.{Stop}
use Rattle.filc_stop.specs.declared.stop.Stop.TheVariants as stop
use Rattle.filc_run.specs.Soaked.{after, given_in, out_of, pipeline, soak, soak_design, stage, step, word_in}
use Rattle.filc_run.proofs.SoakLoopLemmas.{soak_rules}
use Rattle.filc_run.proofs.SoakNestLemmas.{soak_nesting, soak_text}
use Rattle.filc_run.proofs.SoakRuleLemmas.{absent}

time_written : (rows : ℕ) → rows < 2 ^ 128 → TimeIsWritten (after rows)
time_written rows small = (((refl, refl), refl), small)

port_written : (row : ℕ) (name : Text) → row + 1 < 2 ^ 128 → IsFilName name → PortIsWritten (word_in row name)
port_written row name small named = (time_written row (omega arith), (time_written (row + 1) small, (named, omega arith)))

giving_written : (row : ℕ) (args : List ValueTree) → row < 2 ^ 128 → AllByRecursion ValueIsWritten args → GivingIsWritten (given_in row args)
giving_written row args small values = ((λ none. absurd (cc none), (time_written row small, tt)), values)

pipeline_written : (name : Text) (ins outs : List DataPort) (body : List Statement) → IsFilName name → AllByRecursion PortIsWritten ins → AllByRecursion PortIsWritten outs → AllByRecursion StatementIsWritten body → ComponentIsWritten (pipeline name ins outs body)
pipeline_written name ins outs body named inputs outputs statements = record {
  name = named;
  some_event = λ none. absurd (cc none);
  events = ((((refl, refl), refl), omega arith), tt);
  interfaces = ((((refl, refl), refl), (((refl, refl), refl), omega arith)), tt);
  ins = inputs;
  outs = outputs;
  body = statements;
}

-- what is given to a primitive that is made
made_written : (name made : Text) → IsFilName name → IsFilName made → StatementIsWritten (New name made (32 ∷ []))
made_written name made named is = (named, (is, (omega arith, tt)))

called_written : (name inst : Text) (row : ℕ) (args : List ValueTree) → IsFilName name → IsFilName inst → row < 2 ^ 128 → AllByRecursion ValueIsWritten args → StatementIsWritten (Call name inst (given_in row args))
called_written name inst row args named is small values = (named, (is, giving_written row args small values))

out_written : (name : Text) → IsFilName name → ValueIsWritten (out_of name)
out_written name named = (named, ((refl, refl), refl))

connected_written : (name : Text) → IsFilName name → StatementIsWritten (Connect (codes "out") (out_of name))
connected_written name named = (((refl, refl), refl), out_written name named)

literal_written : (value : ℕ) → value < 2 ^ 128 → ValueIsWritten (Literal 32 value)
literal_written value small = (omega arith, small)

stage_written : (name : Text) (j : ℕ) (value : ValueTree) → IsFilName name → 2 * j + 3 < 2 ^ 128 → ValueIsWritten value → StatementIsWritten (stage name j value)
stage_written name j value named small given =
    let step_name : IsFilName (codes "Step") = ((refl, refl), refl) in
    let args : AllByRecursion ValueIsWritten (value ∷ Literal 32 (2 * j + 3) ∷ Literal 32 j ∷ []) =
    (given, (literal_written (2 * j + 3) small, (literal_written j (omega arith), tt))) in
    (named, (step_name, (tt, giving_written (2 * j) (value ∷ Literal 32 (2 * j + 3) ∷ Literal 32 j ∷ []) (omega arith) args)))

step_written : ComponentIsWritten step
step_written =
    let a : IsFilName (codes "a") = ((refl, refl), refl) in
    let b : IsFilName (codes "b") = ((refl, refl), refl) in
    let c : IsFilName (codes "c") = ((refl, refl), refl) in
    let out : IsFilName (codes "out") = ((refl, refl), refl) in
    let name : IsFilName (codes "Step") = ((refl, refl), refl) in
    let mult : IsFilName (codes "FastMult") = ((refl, refl), refl) in
    let delay : IsFilName (codes "Delay") = ((refl, refl), refl) in
    let add : IsFilName (codes "Add") = ((refl, refl), refl) in
    let m : IsFilName (codes "M") = ((refl, refl), refl) in
    let d1 : IsFilName (codes "D1") = ((refl, refl), refl) in
    let d2 : IsFilName (codes "D2") = ((refl, refl), refl) in
    let adder : IsFilName (codes "A") = ((refl, refl), refl) in
    let p : IsFilName (codes "p") = ((refl, refl), refl) in
    let c1 : IsFilName (codes "c1") = ((refl, refl), refl) in
    let c2 : IsFilName (codes "c2") = ((refl, refl), refl) in
    let s : IsFilName (codes "s") = ((refl, refl), refl) in
    let ins : AllByRecursion PortIsWritten step.ins =
    (port_written 0 (codes "a") (omega arith) a, (port_written 0 (codes "b") (omega arith) b, (port_written 0 (codes "c") (omega arith) c, tt))) in
    let outs : AllByRecursion PortIsWritten step.outs = (port_written 2 (codes "out") (omega arith) out, tt) in
    let body : AllByRecursion StatementIsWritten step.body = (
      made_written (codes "M") (codes "FastMult") m mult,
      (
        made_written (codes "D1") (codes "Delay") d1 delay,
        (
          made_written (codes "D2") (codes "Delay") d2 delay,
          (
            made_written (codes "A") (codes "Add") adder add,
            (
              called_written (codes "p") (codes "M") 0 (InputValue (codes "a") ∷ InputValue (codes "b") ∷ []) p m (omega arith) (a, (b, tt)),
              (
                called_written (codes "c1") (codes "D1") 0 (InputValue (codes "c") ∷ []) c1 d1 (omega arith) (c, tt),
                (
                  called_written (codes "c2") (codes "D2") 1 (out_of (codes "c1") ∷ []) c2 d2 (omega arith) (out_written (codes "c1") c1, tt),
                  (
                    called_written (codes "s") (codes "A") 2 (out_of (codes "p") ∷ out_of (codes "c2") ∷ []) s adder (omega arith) (out_written (codes "p") p, (out_written (codes "c2") c2, tt)),
                    (connected_written (codes "s") s, tt),
                  ),
                ),
              ),
            ),
          ),
        ),
      ),
    ) in
    pipeline_written (codes "Step") step.ins step.outs step.body name ins outs body

soak_written : ComponentIsWritten soak
soak_written =
    let a : IsFilName (codes "a") = ((refl, refl), refl) in
    let out : IsFilName (codes "out") = ((refl, refl), refl) in
    let name : IsFilName (codes "Soak") = ((refl, refl), refl) in
    let s0 : IsFilName (codes "s0") = ((refl, refl), refl) in
    let s1 : IsFilName (codes "s1") = ((refl, refl), refl) in
    let s2 : IsFilName (codes "s2") = ((refl, refl), refl) in
    let s3 : IsFilName (codes "s3") = ((refl, refl), refl) in
    let s4 : IsFilName (codes "s4") = ((refl, refl), refl) in
    let s5 : IsFilName (codes "s5") = ((refl, refl), refl) in
    let s6 : IsFilName (codes "s6") = ((refl, refl), refl) in
    let s7 : IsFilName (codes "s7") = ((refl, refl), refl) in
    let ins : AllByRecursion PortIsWritten soak.ins = (port_written 0 (codes "a") (omega arith) a, tt) in
    let outs : AllByRecursion PortIsWritten soak.outs = (port_written 16 (codes "out") (omega arith) out, tt) in
    let body : AllByRecursion StatementIsWritten soak.body = (
      stage_written (codes "s0") 0 (InputValue (codes "a")) s0 (omega arith) a,
      (
        stage_written (codes "s1") 1 (out_of (codes "s0")) s1 (omega arith) (out_written (codes "s0") s0),
        (
          stage_written (codes "s2") 2 (out_of (codes "s1")) s2 (omega arith) (out_written (codes "s1") s1),
          (
            stage_written (codes "s3") 3 (out_of (codes "s2")) s3 (omega arith) (out_written (codes "s2") s2),
            (
              stage_written (codes "s4") 4 (out_of (codes "s3")) s4 (omega arith) (out_written (codes "s3") s3),
              (
                stage_written (codes "s5") 5 (out_of (codes "s4")) s5 (omega arith) (out_written (codes "s4") s4),
                (
                  stage_written (codes "s6") 6 (out_of (codes "s5")) s6 (omega arith) (out_written (codes "s5") s5),
                  (
                    stage_written (codes "s7") 7 (out_of (codes "s6")) s7 (omega arith) (out_written (codes "s6") s6),
                    (connected_written (codes "s7") s7, tt),
                  ),
                ),
              ),
            ),
          ),
        ),
      ),
    ) in
    pipeline_written (codes "Soak") soak.ins soak.outs soak.body name ins outs body

design_written : DesignIsWritten soak_design
design_written = (λ none. absurd (cc none), (step_written, (soak_written, tt)))

-- its canonical text spells it
pub soak_spelled : SpellsDesign soak_text soak_design
soak_spelled = design_shown soak_design design_written

-- ---- the top component

not_main : (n : ℕ) (c : Component) → slice_get soak_design n ≡ Some c → c.name ≡ codes "main" → ⊥
not_main zero c at named =
    let byte : 83 ≡ 109 = ap (λ (d : Component). get_or d.name 0 0) (same_Some step c at) ∙ ap (λ (t : Text). get_or t 0 0) named in absurd (omega (arith, byte))
not_main (suc zero) c at named =
    let byte : 83 ≡ 109 = ap (λ (d : Component). get_or d.name 0 0) (same_Some soak c at) ∙ ap (λ (t : Text). get_or t 0 0) named in absurd (omega (arith, byte))
not_main (suc (suc n)) c at named = let none : ◌≡◌ {A = Option Component} None (Some c) = at in absurd (cc none)

pub top_number : (n : ℕ) → IsTop soak_design n → n ≡ 1
top_number n top =
    ⊎_elim (λ main. absurd (not_main n main.0 main.1 main.2)) (λ last. let all : n + 1 ≡ 2 = last.1 in omega arith) top

-- ---- what its text gives

soak_light : IsLight soak_design
unfolding prim_of prim_names with_params is_made inputs_of outputs_of
soak_light = record { number = 1; top = soak; has_top = record { is_top = inr (absent (codes "main") (component_names soak_design) refl, refl); at = refl }; light = omega arith }

-- the design keeps the rules and the limits
soak_given : GivesFil soak_text soak_design
soak_given = record {
  accepted = record { text_of = record { shallow = soak_nesting; spells = soak_spelled; small = refl }; rules = soak_rules };
  light = soak_light;
}

built_is : (b : FilBuilt) → IsFilBuiltFrom soak_text b → design_of b.design ≡ soak_design
built_is b built = one_tree soak_text (design_of b.design) soak_design built.gives.accepted.text_of.spells soak_spelled

pub built_design : (result : Result FilBuilt Stop) → IfOk result (IsFilBuiltFrom soak_text) → IfOk result (λ b. design_of b.design ≡ soak_design)
built_design (Ok b) built = built_is b built
built_design (Err why) built = tt

pub built_ready : (result : Result FilBuilt Stop) → IfOk result (IsFilBuiltFrom soak_text) → IfOk result IsFilReady
built_ready (Ok b) built = built.ready
built_ready (Err why) built = tt

unbuilt_is : (why : Stop) → IsUnbuilt Filament soak_text why → why ≡ stop.Memory
unbuilt_is stop.ReadFault is = absurd is
unbuilt_is stop.StimulusReadFault is = absurd is
unbuilt_is (stop.Refused why) is = absurd (given_fil_not_refused soak_text soak_design (answer_of why) (refusal_line why) soak_given is)
unbuilt_is stop.WriteFault is = absurd is
unbuilt_is stop.Memory is = refl

-- so only memory may be wanting
pub built_memory : (result : Result FilBuilt Stop) → IfErr result (IsUnbuilt Filament soak_text) → IfErr result (λ why. why ≡ stop.Memory)
built_memory (Ok b) unbuilt = tt
built_memory (Err why) unbuilt = unbuilt_is why unbuilt

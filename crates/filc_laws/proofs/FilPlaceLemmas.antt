-- A Filament text is refused at one byte: its grammar looks at no name.
use Rattle.std.proofs.Common.{ℕ, List, [], sym, ◌∙◌}
use Rattle.hw_names.specs.Name.{Text}
use Rattle.hw_lex.specs.declared.token.Dialect.TheVariants.{Fil}
use Rattle.hw_grammar.specs.declared.sort.Sort.TheVariants.{Comp, New, Interface, Import, At, LeftBracket, RightBracket, LeftParen, RightParen, LeftAngle, RightAngle, LeftBrace, RightBrace, Comma, Colon, ColonEquals, Semicolon, Equals, Plus, Dot, Arrow}
use Rattle.hw_grammar.specs.declared.sort.Sort.TheVariants as sorts
use Rattle.hw_grammar.specs.declared.terminal.Terminal.{Terminal}
use Rattle.fil_ast.specs.Tree.{InputValue}
use Rattle.fil_parse.specs.Grammar.{time_from, output_from, literal_from, giving_from, new_from, call_from, connect_from, port_from, interface_from, InterfacePort, DataInput, event_from, component_from, design_from, IsTime, IsValue, IsCall, AreParameters, IsStatement, IsPlacedPort, IsPort, IsNamedInterface, IsInput, IsEvent, AreEvents, AreInputs, AreOutputs, IsBody, IsComponent, IsImport, AreImports, IsFile}
use Rattle.filc_laws.proofs.FollowLemmas.{Follows, follows-one, follows-empty, follows-mapped, follows-then, follows-either, follows-many, follows-optional, follows-after, follows-closed, follows-between, follows-separated, follows-listed, follows-word, follows-number, follows-literal, spells_too}
use Rattle.filc_laws.proofs.PlaceLemmas.{lexed_alike, same_refused_byte}
use Rattle.filc_laws.specs.OnePlace.{FilPlaceIsOne, RefusedFilSpellsNone}

-- ---- the grammar of Filament, with two lists of names

module _ (old new : List Text) where
  follows-time : Follows (IsTime old) (IsTime new)
  follows-time = follows-mapped time_from time_from (follows-then (follows-word old new) (follows-either (follows-after Plus follows-number) (follows-empty 0)))

  follows-value : Follows (IsValue old) (IsValue new)
  follows-value =
      follows-either (follows-mapped InputValue InputValue (follows-word old new))
      (follows-either (follows-mapped output_from output_from (follows-then (follows-word old new) (follows-after Dot (follows-word old new)))) (follows-mapped literal_from literal_from follows-literal))

  follows-call : Follows (IsCall old) (IsCall new)
  follows-call =
      follows-mapped giving_from giving_from
      (follows-then (follows-between LeftAngle RightAngle (follows-separated Comma follows-time)) (follows-between LeftParen RightParen (follows-listed Comma follows-value)))

  follows-params : Follows AreParameters AreParameters
  follows-params = follows-between LeftBracket RightBracket (follows-separated Comma follows-number)

  follows-statement : Follows (IsStatement old) (IsStatement new)
  follows-statement =
      follows-either
      (follows-mapped new_from new_from
      (follows-then (follows-word old new) (follows-after ColonEquals (follows-after New (follows-then (follows-word old new)
      (follows-closed Semicolon (follows-then (follows-either follows-params (follows-empty {A = List ℕ} [])) (follows-optional follows-call))))))))
      (follows-either
      (follows-mapped call_from call_from (follows-then (follows-word old new) (follows-after ColonEquals (follows-then (follows-word old new) (follows-closed Semicolon follows-call)))))
      (follows-mapped connect_from connect_from (follows-then (follows-word old new) (follows-after Equals (follows-closed Semicolon follows-value)))))

  follows-placed : Follows (IsPlacedPort old) (IsPlacedPort new)
  follows-placed =
      follows-mapped port_from port_from
      (follows-after LeftBracket (follows-then (follows-closed Comma follows-time) (follows-then (follows-closed RightBracket follows-time) (follows-then (follows-closed Colon (follows-word old new)) follows-number))))

  follows-port : Follows (IsPort old) (IsPort new)
  follows-port = follows-after At follows-placed

  follows-interface : Follows (IsNamedInterface old) (IsNamedInterface new)
  follows-interface =
      follows-mapped interface_from interface_from
      (follows-then (follows-between LeftBracket RightBracket (follows-word old new)) (follows-then (follows-closed Colon (follows-word old new)) follows-number))

  follows-input : Follows (IsInput old) (IsInput new)
  follows-input =
      follows-either (follows-mapped InterfacePort InterfacePort (follows-after At (follows-after Interface follows-interface))) (follows-mapped DataInput DataInput follows-port)

  follows-event : Follows (IsEvent old) (IsEvent new)
  follows-event = follows-mapped event_from event_from (follows-then (follows-closed Colon (follows-word old new)) follows-number)

  follows-events : Follows (AreEvents old) (AreEvents new)
  follows-events = follows-between LeftAngle RightAngle (follows-separated Comma follows-event)

  follows-inputs : Follows (AreInputs old) (AreInputs new)
  follows-inputs = follows-between LeftParen RightParen (follows-listed Comma follows-input)

  follows-outputs : Follows (AreOutputs old) (AreOutputs new)
  follows-outputs = follows-between LeftParen RightParen (follows-listed Comma follows-port)

  follows-body : Follows (IsBody old) (IsBody new)
  follows-body = follows-between LeftBrace RightBrace (follows-many follows-statement)

  follows-component : Follows (IsComponent old) (IsComponent new)
  follows-component =
      follows-mapped component_from component_from
      (follows-after Comp (follows-then (follows-word old new) (follows-then follows-events (follows-then follows-inputs (follows-then (follows-after Arrow follows-outputs) follows-body)))))

  follows-import : Follows IsImport IsImport
  follows-import = follows-after Import (follows-closed Semicolon (follows-mapped (λ (t : Terminal). tt) (λ (t : Terminal). tt) (follows-one sorts.Text)))

  follows-imports : Follows AreImports AreImports
  follows-imports = follows-mapped (λ (x : List (Unit {0})). tt) (λ (x : List (Unit {0})). tt) (follows-many follows-import)

  pub follows-file : Follows (IsFile old) (IsFile new)
  follows-file = follows-mapped design_from design_from (follows-then follows-imports (follows-then follows-component (follows-many follows-component)))

-- ---- the place

pub fil_place_is_one : FilPlaceIsOne
fil_place_is_one = λ text at other refused refused'.
    let old = refused.0 in
    let new = refused'.0 in
    let p = refused.1 in
    let q = refused'.1 in
    p.5 ∙ same_refused_byte (follows-file old new) (follows-file new old) Fil old new text p.0 q.0 p.1 q.1 p.3 q.3 p.2 q.2 p.4 q.4 ∙ sym q.5

pub refused_fil_spells_none : RefusedFilSpellsNone
refused_fil_spells_none = λ text at design refused spells.
    let p = refused.1 in
    let q = spells.1 in
    let s = spells_too (follows-file spells.0 refused.0) q.1 p.1 design (lexed_alike Fil spells.0 refused.0 text q.0 p.0 q.1 p.1 q.2 p.2) q.3 in
    p.4.2 s.0 s.1

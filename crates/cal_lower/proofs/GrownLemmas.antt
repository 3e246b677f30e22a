-- What shows a tree under some names goes on to show it where names are added.
use Rattle.std.proofs.Common.{◌≡◌, List, [], ◌∷◌, ◌++◌, Some, None, refl, sym, ap, ap₂, subst, ◌∙◌}
use Rattle.std.proofs.lemmas.List.{map-append}
use Rattle.std.proofs.lemmas.List.Elements.{All-append, All-cons, All-nil}
use Rattle.std.proofs.lemmas.Option.{slice_get_within}
use Rattle.hw_names.proofs.NameLemmas.{text_of-slice_get}
use Rattle.hw_names.specs.Name.{KeepsTexts, Text, text_of}
use Rattle.hw_names.specs.declared.names.NameId.{NameId}
use Rattle.net_core.specs.Guard.{GuardTree}
use Rattle.net_core.specs.Numbers.{IsNumberOf}
use Rattle.cal_ast.specs.Numbers.{CellHasNumbers, GuardHasNumbers, PortHasNumbers, SetHasNumbers}
use Rattle.cal_ast.specs.Tree.{PortName, assignment_tree, cell_tree, port_tree}
use Rattle.cal_ast.specs.declared.tree.CalPort.{CalPort}
use Rattle.cal_lower.specs.inside.Labels.{AreTexts, KeepsLabels}
use Rattle.cal_lower.specs.inside.Making.{Made, ShowsParts}
use Rattle.cal_lower.specs.inside.Pieces.{Piece}
use Rattle.cal_lower.specs.inside.Shown.{Guards, Shows, ShowAll, ShowsActs, ShowsName, ShowsPieces, ShowsPort, ShowsWanted, seen_guard}
use Rattle.cal_lower.specs.declared.acts.Acts.{Acts}
use Rattle.cal_lower.specs.declared.acts.Wanted.{Wanted}
use Rattle.cal_lower.specs.declared.labels.Labels.{Labels}
use Rattle.cal_lower.specs.declared.labels.Texts.{Texts}
use Rattle.cal_lower.specs.declared.made.Parts.{Parts}
use Rattle.cal_lower.specs.declared.pieces.Pieces.{Pieces}
use Rattle.cal_lower.proofs.StableLemmas.{KeepsTexts-refl, KeepsTexts-trans, port_kept, port_numbers}

module _ {X Y : Type 0} (Numbered : List Text → X → Type 0) (tree_of : List Text → X → Y) where
  pub shows_kept : (old new : List Text) (y : Y) (x : X) → KeepsTexts old new → Shows Numbered tree_of old y x → Shows Numbered tree_of new y x
  shows_kept old new y x kept shows = record {
    tree = λ later more. shows.tree later (KeepsTexts-trans old new later kept more);
    numbers = λ later more. shows.numbers later (KeepsTexts-trans old new later kept more);
  }

  pub show_all_kept : (old new : List Text) (ys : List Y) (xs : List X) → KeepsTexts old new → ShowAll Numbered tree_of old ys xs → ShowAll Numbered tree_of new ys xs
  show_all_kept old new ys xs kept shows = record {
    trees = λ later more. shows.trees later (KeepsTexts-trans old new later kept more);
    numbers = λ later more. shows.numbers later (KeepsTexts-trans old new later kept more);
  }

  module _ (names : List Text) where
    pub show_none : ShowAll Numbered tree_of names [] []
    show_none = record { trees = λ later more. refl; numbers = λ later more. All-nil (Numbered later) }

    pub show_one : (y : Y) (x : X) → Shows Numbered tree_of names y x → ShowAll Numbered tree_of names (y ∷ []) (x ∷ [])
    show_one y x shows = record {
      trees = λ later more. ap (λ t. t ∷ []) (shows.tree later more);
      numbers = λ later more. All-cons (Numbered later) x [] (shows.numbers later more) (All-nil (Numbered later));
    }

    pub show_append : (ys zs : List Y) (xs ws : List X) → ShowAll Numbered tree_of names ys xs → ShowAll Numbered tree_of names zs ws → ShowAll Numbered tree_of names (ys ++ zs) (xs ++ ws)
    show_append ys zs xs ws first second = record {
      trees = λ later more. map-append (tree_of later) xs ws ∙ ap₂ ◌++◌ (first.trees later more) (second.trees later more);
      numbers = λ later more. All-append (Numbered later) xs ws (first.numbers later more) (second.numbers later more);
    }

    pub show_push : (ys : List Y) (xs : List X) (y : Y) (x : X) → ShowAll Numbered tree_of names ys xs → Shows Numbered tree_of names y x → ShowAll Numbered tree_of names (ys ++ y ∷ []) (xs ++ x ∷ [])
    show_push ys xs y x before here = show_append ys (y ∷ []) xs (x ∷ []) before (show_one y x here)

-- ---- names and ports

-- a number with this text
pub name_text : (names : List Text) (text : Text) (id : NameId) → ShowsName names text id → text_of names id ≡ text
name_text names text id is = text_of-slice_get names id text is

pub name_number : (names : List Text) (text : Text) (id : NameId) → ShowsName names text id → IsNumberOf names id
name_number names text id is = slice_get_within names id.0 text is

pub texts_kept : (old new : List Text) (texts : Texts) → KeepsTexts old new → AreTexts old texts → AreTexts new texts
texts_kept old new texts kept are = record {
  wire = kept _ _ are.wire;
  register = kept _ _ are.register;
  input = kept _ _ are.input;
  enable = kept _ _ are.enable;
  output = kept _ _ are.output;
}

-- a port of a cell, and one of the component itself, made of numbers
pub cell_port : (names : List Text) (cell pin : Text) (a b : NameId) → ShowsName names cell a → ShowsName names pin b
    → ShowsPort names (record { cell = Some cell; pin = pin }) (record { cell = Some a; port = b })
cell_port names cell pin a b first second = record {
  tree = λ later more. ap₂ (λ (c p : Text). record { cell = Some c; pin = p }) (name_text later cell a (more _ _ first)) (name_text later pin b (more _ _ second));
  numbers = λ later more. (name_number later cell a (more _ _ first), name_number later pin b (more _ _ second));
}

pub own_port : (names : List Text) (pin : Text) (b : NameId) → ShowsName names pin b → ShowsPort names (record { cell = None; pin = pin }) (record { cell = None; port = b })
own_port names pin b is = record {
  tree = λ later more. ap (λ (p : Text). record { cell = None; pin = p }) (name_text later pin b (more _ _ is));
  numbers = λ later more. (tt, name_number later pin b (more _ _ is));
}

-- a port of the source, whose names are kept
pub source_port : (source names : List Text) (p : CalPort) → KeepsTexts source names → PortHasNumbers source p → ShowsPort names (port_tree source p) p
source_port source names p kept known = record {
  tree = λ later more. port_kept source later (KeepsTexts-trans source names later kept more) p known;
  numbers = λ later more. port_numbers source later (KeepsTexts-trans source names later kept more) p known;
}

-- ---- labels

pub labels_refl : (labels : Labels) → KeepsLabels labels labels
labels_refl labels = record { names = KeepsTexts-refl labels.names; texts = refl }

pub labels_trans : (a b c : Labels) → KeepsLabels a b → KeepsLabels b c → KeepsLabels a c
labels_trans a b c first second = record { names = KeepsTexts-trans a.names b.names c.names first.names second.names; texts = second.texts ∙ first.texts }

pub labels_texts : (old new : Labels) → KeepsLabels old new → AreTexts old.names old.texts → AreTexts new.names new.texts
labels_texts old new kept are =
    let P : Texts → Type 0 = AreTexts new.names in
    subst P (sym kept.texts) (texts_kept old.names new.names old.texts kept.names are)

-- ---- pieces and guards

pub pieces_kept : (old new : List Text) (list : List Piece) (made : Pieces) → KeepsTexts old new → ShowsPieces old list made → ShowsPieces new list made
pieces_kept old new list made kept shows = record {
  cells = show_all_kept CellHasNumbers cell_tree old new _ _ kept shows.cells;
  sets = show_all_kept SetHasNumbers assignment_tree old new _ _ kept shows.sets;
}

pub wanted_kept : (old new : List Text) (enabled tested : List (GuardTree PortName)) (w : Wanted) → KeepsTexts old new → ShowsWanted old enabled tested w → ShowsWanted new enabled tested w
wanted_kept old new enabled tested w kept shows = record {
  enabled = show_all_kept GuardHasNumbers seen_guard old new enabled w.enabled.items kept shows.enabled;
  tested = show_all_kept GuardHasNumbers seen_guard old new tested w.tested.items kept shows.tested;
}

pub acts_kept : (old new : List Text) (enabled tested : Guards) (acts : Acts) → KeepsTexts old new → ShowsActs old enabled tested acts → ShowsActs new enabled tested acts
acts_kept old new enabled tested acts kept shows = record {
  at = λ n group there.
      let (w, is, shown) = shows.at n group there in
      (w, is, wanted_kept old new (enabled group) (tested group) w kept shown);
}

pub parts_kept : (old new : List Text) (made : Made) (parts : Parts) → KeepsTexts old new → ShowsParts old made parts → ShowsParts new made parts
parts_kept old new made parts kept shows = record {
  pieces = pieces_kept old new made.pieces parts.pieces kept shows.pieces;
  acts = acts_kept old new made.enabled made.tested parts.acts kept shows.acts;
}

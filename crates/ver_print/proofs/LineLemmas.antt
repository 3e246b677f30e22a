-- Lines of cells: what code puts, piece by piece, is the line.
use Rattle.std.proofs.Common.{◌≡◌, [], ◌∷◌, ◌++◌, codes, flat_map, sym, ap, ◌∙◌, append_assoc, append-nil}
use Rattle.hw_names.specs.Name.{Text}
use Rattle.ver_print.specs.Cells.{clocked}
use Rattle.ver_print.specs.Words.{assignment, inner_line, joined, part}

-- ---- texts grouped in two ways

nested_four : (a b c d : Text) → a ++ b ++ c ++ d ≡ a ++ (b ++ (c ++ d))
nested_four a b c d = simp append_assoc

nested_five : (a b c d e : Text) → a ++ b ++ c ++ d ++ e ≡ a ++ (b ++ (c ++ (d ++ e)))
nested_five a b c d e = simp append_assoc

nested_six : (a b c d e f : Text) → a ++ b ++ c ++ d ++ e ++ f ≡ a ++ (b ++ (c ++ (d ++ (e ++ f))))
nested_six a b c d e f = simp append_assoc

nested_seven : (a b c d e f g : Text) → a ++ b ++ c ++ d ++ e ++ f ++ g ≡ a ++ (b ++ (c ++ (d ++ (e ++ (f ++ g)))))
nested_seven a b c d e f g = simp append_assoc

-- ---- lines one after another

after_three : (a p q s : Text) → a ++ p ++ q ++ s ≡ a ++ (p ++ (q ++ (s ++ [])))
after_three a p q s = simp (append_assoc, append-nil)

after_four : (a p q s t : Text) → a ++ p ++ q ++ s ++ t ≡ a ++ (p ++ (q ++ (s ++ (t ++ []))))
after_four a p q s t = simp (append_assoc, append-nil)

after_five : (a p q s t u : Text) → a ++ p ++ q ++ s ++ t ++ u ≡ a ++ (p ++ (q ++ (s ++ (t ++ (u ++ [])))))
after_five a p q s t u = simp (append_assoc, append-nil)

after_six : (a p q s t u v : Text) → a ++ p ++ q ++ s ++ t ++ u ++ v ≡ a ++ (p ++ (q ++ (s ++ (t ++ (u ++ (v ++ []))))))
after_six a p q s t u v = simp (append_assoc, append-nil)

after_seven : (a p q s t u v w : Text) → a ++ p ++ q ++ s ++ t ++ u ++ v ++ w ≡ a ++ (p ++ (q ++ (s ++ (t ++ (u ++ (v ++ (w ++ [])))))))
after_seven a p q s t u v w = simp (append_assoc, append-nil)

pub one_line : (a p : Text) → a ++ inner_line p ≡ a ++ flat_map inner_line (p ∷ [])
one_line a p = ap (λ (t : Text). a ++ t) (sym (append-nil (inner_line p)))

pub three_lines : (a b c p q s : Text) → b ≡ a ++ inner_line p → c ≡ b ++ inner_line q → c ++ inner_line s ≡ a ++ flat_map inner_line (p ∷ q ∷ s ∷ [])
three_lines a b c p q s h1 h2 = rw (h2, h1) (after_three a (inner_line p) (inner_line q) (inner_line s))

pub four_lines : (a b c d p q s t : Text) → b ≡ a ++ inner_line p → c ≡ b ++ inner_line q → d ≡ c ++ inner_line s → d ++ inner_line t ≡ a ++ flat_map inner_line (p ∷ q ∷ s ∷ t ∷ [])
four_lines a b c d p q s t h1 h2 h3 = rw (h3, h2, h1) (after_four a (inner_line p) (inner_line q) (inner_line s) (inner_line t))

pub five_lines : (a b c d e p q s t u : Text) → b ≡ a ++ inner_line p → c ≡ b ++ inner_line q → d ≡ c ++ inner_line s → e ≡ d ++ inner_line t
    → e ++ inner_line u ≡ a ++ flat_map inner_line (p ∷ q ∷ s ∷ t ∷ u ∷ [])
five_lines a b c d e p q s t u h1 h2 h3 h4 = rw (h4, h3, h2, h1) (after_five a (inner_line p) (inner_line q) (inner_line s) (inner_line t) (inner_line u))

pub six_lines : (a b c d e f p q s t u v : Text) → b ≡ a ++ inner_line p → c ≡ b ++ inner_line q → d ≡ c ++ inner_line s → e ≡ d ++ inner_line t → f ≡ e ++ inner_line u
    → f ++ inner_line v ≡ a ++ flat_map inner_line (p ∷ q ∷ s ∷ t ∷ u ∷ v ∷ [])
six_lines a b c d e f p q s t u v h1 h2 h3 h4 h5 = rw (h5, h4, h3, h2, h1) (after_six a (inner_line p) (inner_line q) (inner_line s) (inner_line t) (inner_line u) (inner_line v))

pub seven_lines : (a b c d e f g p q s t u v w : Text) → b ≡ a ++ inner_line p → c ≡ b ++ inner_line q → d ≡ c ++ inner_line s → e ≡ d ++ inner_line t → f ≡ e ++ inner_line u → g ≡ f ++ inner_line v
    → g ++ inner_line w ≡ a ++ flat_map inner_line (p ∷ q ∷ s ∷ t ∷ u ∷ v ∷ w ∷ [])
seven_lines a b c d e f g p q s t u v w h1 h2 h3 h4 h5 h6 =
    rw (h6, h5, h4, h3, h2, h1) (after_seven a (inner_line p) (inner_line q) (inner_line s) (inner_line t) (inner_line u) (inner_line v) (inner_line w))

-- ---- assignments, by the pieces of their values

pub one_piece : (target a : Text) → codes "assign " ++ (target ++ (codes "= " ++ (a ++ codes ";"))) ≡ assignment target a
one_piece target a = sym (nested_five (codes "assign ") target (codes "= ") a (codes ";"))

-- a value that is put in pieces
in_pieces : (target value pieces : Text) → value ++ codes ";" ≡ pieces → codes "assign " ++ (target ++ (codes "= " ++ pieces)) ≡ assignment target value
in_pieces target value pieces are = ap (λ (t : Text). codes "assign " ++ (target ++ (codes "= " ++ t))) (sym are) ∙ one_piece target value

pub two_pieces : (target a b : Text) → codes "assign " ++ (target ++ (codes "= " ++ (a ++ (b ++ codes ";")))) ≡ assignment target (a ++ b)
two_pieces target a b = in_pieces target (a ++ b) (a ++ (b ++ codes ";")) (append_assoc a b (codes ";"))

pub three_pieces : (target a b c : Text) → codes "assign " ++ (target ++ (codes "= " ++ (a ++ (b ++ (c ++ codes ";"))))) ≡ assignment target (a ++ b ++ c)
three_pieces target a b c = in_pieces target (a ++ b ++ c) (a ++ (b ++ (c ++ codes ";"))) (nested_four a b c (codes ";"))

pub four_pieces : (target a b c d : Text) → codes "assign " ++ (target ++ (codes "= " ++ (a ++ (b ++ (c ++ (d ++ codes ";")))))) ≡ assignment target (a ++ b ++ c ++ d)
four_pieces target a b c d = in_pieces target (a ++ b ++ c ++ d) (a ++ (b ++ (c ++ (d ++ codes ";")))) (nested_five a b c d (codes ";"))

pub five_pieces : (target a b c d e : Text) → codes "assign " ++ (target ++ (codes "= " ++ (a ++ (b ++ (c ++ (d ++ (e ++ codes ";"))))))) ≡ assignment target (a ++ b ++ c ++ d ++ e)
five_pieces target a b c d e = in_pieces target (a ++ b ++ c ++ d ++ e) (a ++ (b ++ (c ++ (d ++ (e ++ codes ";"))))) (nested_six a b c d e (codes ";"))

pub six_pieces : (target a b c d e f : Text) → codes "assign " ++ (target ++ (codes "= " ++ (a ++ (b ++ (c ++ (d ++ (e ++ (f ++ codes ";")))))))) ≡ assignment target (a ++ b ++ c ++ d ++ e ++ f)
six_pieces target a b c d e f = in_pieces target (a ++ b ++ c ++ d ++ e ++ f) (a ++ (b ++ (c ++ (d ++ (e ++ (f ++ codes ";")))))) (nested_seven a b c d e f (codes ";"))

-- ---- registers

kept_parts : (r o h c s n e w z end : Text) → r ++ (o ++ (h ++ (c ++ (s ++ (n ++ (e ++ (w ++ (z ++ end)))))))) ≡ r ++ (o ++ h ++ c) ++ s ++ n ++ e ++ (w ++ z) ++ end
kept_parts r o h c s n e w z end = simp append_assoc

pub kept_text : (high register width : Text) → codes "reg [" ++ (high ++ (codes ":0] " ++ (register ++ (codes "= " ++ (width ++ codes "'d0;")))))
    ≡ codes "reg " ++ (codes "[" ++ high ++ codes ":0]") ++ codes " " ++ register ++ codes "= " ++ (width ++ codes "'d0") ++ codes ";"
kept_text high register width = kept_parts (codes "reg ") (codes "[") high (codes ":0]") (codes " ") register (codes "= ") width (codes "'d0") (codes ";")

-- an operation on left and right among other pieces
operation_then : (left right rest : Text) → left ++ (codes "* " ++ (right ++ rest)) ≡ (left ++ codes "*" ++ codes " " ++ right) ++ rest
operation_then left right rest = sym (nested_five left (codes "*") (codes " ") right rest)

-- the edge of a register, as it is put
abbrev pub register_edge : Text → Text
register_edge cell =
    codes "always @(posedge \\$clk ) begin " ++ (part cell (codes "$1") ++ (codes "<= " ++ (part cell (codes "write_en") ++ (codes "; if (" ++ (part cell (codes "write_en")
    ++ (codes ") " ++ (part cell (codes "$0") ++ (codes "<= " ++ (part cell (codes "in") ++ codes "; end")))))))))

pub delay_edge : (kept input : Text) → codes "always @(posedge \\$clk ) " ++ (kept ++ (codes "<= " ++ (input ++ codes ";"))) ≡ clocked (kept ++ codes "<= " ++ input ++ codes ";")
delay_edge kept input = simp append_assoc

fast_mult_parts : (b s e f m l o p r z : Text) → b ++ (s ++ (e ++ (f ++ (m ++ (f ++ (e ++ (l ++ (o ++ (p ++ (r ++ z)))))))))) ≡ b ++ s ++ e ++ f ++ m ++ f ++ e ++ (l ++ o ++ p ++ r) ++ z
fast_mult_parts b s e f m l o p r z = simp append_assoc

pub fast_mult_edge : (first second left right : Text) →
    codes "always @(posedge \\$clk ) begin " ++ (second ++ (codes "<= " ++ (first ++ (codes "; " ++ (first ++ (codes "<= " ++ (left ++ (codes "* " ++ (right ++ codes "; end")))))))))
    ≡ clocked (codes "begin " ++ second ++ codes "<= " ++ first ++ codes "; " ++ first ++ codes "<= " ++ (left ++ codes "*" ++ codes " " ++ right) ++ codes "; end")
fast_mult_edge first second left right =
    ap (λ (t : Text). clocked t) (fast_mult_parts (codes "begin ") second (codes "<= ") first (codes "; ") left (codes "*") (codes " ") right (codes "; end"))

seq_mult_parts : (o p m q c w z end : Text) → (o ++ p ++ m ++ q ++ c ++ (w ++ z)) ++ end ≡ o ++ (p ++ (m ++ (q ++ (c ++ (w ++ (z ++ end))))))
seq_mult_parts o p m q c w z end = simp append_assoc

pub seq_mult_value : (target phase product width : Text) → codes "assign " ++ (target ++ (codes "= (" ++ (phase ++ (codes "== 2'd2) ? " ++ (product ++ (codes ": " ++ (width ++ codes "'d0;")))))))
    ≡ assignment target (codes "(" ++ phase ++ codes "== 2'd2) ? " ++ product ++ codes ": " ++ (width ++ codes "'d0"))
seq_mult_value target phase product width =
    in_pieces target (codes "(" ++ phase ++ codes "== 2'd2) ? " ++ product ++ codes ": " ++ (width ++ codes "'d0")) (codes "(" ++ (phase ++ (codes "== 2'd2) ? " ++ (product ++ (codes ": " ++ (width ++ codes "'d0;"))))))
    (seq_mult_parts (codes "(") phase (codes "== 2'd2) ? ") product (codes ": ") width (codes "'d0") (codes ";"))

pub seq_mult_put : (phase product go left right : Text) →
    codes "always @(posedge \\$clk ) begin if (" ++ (phase ++ (codes "== 2'd0) begin if (" ++ (go ++ (codes ") begin " ++ (product ++ (codes "<= " ++ (left ++ (codes "* " ++ (right
    ++ (codes "; " ++ (phase ++ (codes "<= 2'd1; end end else if (" ++ (phase ++ (codes "== 2'd1) " ++ (phase ++ (codes "<= 2'd2; else " ++ (phase ++ codes "<= 2'd0; end")))))))))))))))))
    ≡ clocked (joined (
    codes "begin if (" ∷ phase ∷ codes "== 2'd0) begin if (" ∷ go ∷ codes ") begin " ∷
    product ∷ codes "<= " ∷ (left ++ codes "*" ++ codes " " ++ right) ∷ codes "; " ∷ phase ∷ codes "<= 2'd1; end end " ∷
    codes "else if (" ∷ phase ∷ codes "== 2'd1) " ∷ phase ∷ codes "<= 2'd2; " ∷
    codes "else " ∷ phase ∷ codes "<= 2'd0; end" ∷ []))
seq_mult_put phase product go left right =
    ap (λ (t : Text). codes "always @(posedge \\$clk ) begin if (" ++ (phase ++ (codes "== 2'd0) begin if (" ++ (go ++ (codes ") begin " ++ (product ++ (codes "<= " ++ t)))))))
    (operation_then left right (codes "; " ++ (phase ++ (codes "<= 2'd1; end end else if (" ++ (phase ++ (codes "== 2'd1) " ++ (phase ++ (codes "<= 2'd2; else " ++ (phase ++ codes "<= 2'd0; end")))))))))

pub mult_pipe_put : (phase product shown go left right : Text) →
    codes "always @(posedge \\$clk ) begin if (" ++ (phase ++ (codes "== 2'd3 || !" ++ (go ++ (codes ") " ++ (phase ++ (codes "<= 2'd0; else " ++ (phase ++ (codes "<= " ++ (phase
    ++ (codes "+ 2'd1; if (" ++ (phase ++ (codes "== 2'd0 && " ++ (go ++ (codes ") " ++ (product ++ (codes "<= " ++ (left ++ (codes "* " ++ (right
    ++ (codes "; if (" ++ (phase ++ (codes "== 2'd2 && " ++ (go ++ (codes ") " ++ (shown ++ (codes "<= " ++ (product ++ codes "; end")))))))))))))))))))))))))))
    ≡ clocked (joined (
    codes "begin if (" ∷ phase ∷ codes "== 2'd3 || !" ∷ go ∷ codes ") " ∷ phase ∷ codes "<= 2'd0; " ∷
    codes "else " ∷ phase ∷ codes "<= " ∷ phase ∷ codes "+ 2'd1; " ∷
    codes "if (" ∷ phase ∷ codes "== 2'd0 && " ∷ go ∷ codes ") " ∷ product ∷ codes "<= " ∷ (left ++ codes "*" ++ codes " " ++ right) ∷ codes "; " ∷
    codes "if (" ∷ phase ∷ codes "== 2'd2 && " ∷ go ∷ codes ") " ∷ shown ∷ codes "<= " ∷ product ∷ codes "; end" ∷ []))
mult_pipe_put phase product shown go left right =
    ap (λ (t : Text). codes "always @(posedge \\$clk ) begin if (" ++ (phase ++ (codes "== 2'd3 || !" ++ (go ++ (codes ") " ++ (phase ++ (codes "<= 2'd0; else " ++ (phase ++ (codes "<= " ++ (phase
    ++ (codes "+ 2'd1; if (" ++ (phase ++ (codes "== 2'd0 && " ++ (go ++ (codes ") " ++ (product ++ (codes "<= " ++ t)))))))))))))))))
    (operation_then left right (codes "; if (" ++ (phase ++ (codes "== 2'd2 && " ++ (go ++ (codes ") " ++ (shown ++ (codes "<= " ++ (product ++ codes "; end")))))))))

-- ---- memories

pub words_text : (high words last : Text) → codes "reg [" ++ (high ++ (codes ":0] " ++ (words ++ (codes "[0:" ++ (last ++ codes "];")))))
    ≡ codes "reg " ++ (codes "[" ++ high ++ codes ":0]") ++ codes " " ++ words ++ codes "[0:" ++ last ++ codes "];"
words_text high words last = simp append_assoc

pub start_text : (i count words width : Text) →
    codes "initial for (" ++ (i ++ (codes "= 0; " ++ (i ++ (codes "< " ++ (count ++ (codes "; " ++ (i ++ (codes "= " ++ (i ++ (codes "+ 1) "
    ++ (words ++ (codes "[" ++ (i ++ (codes "] = " ++ (width ++ codes "'d0;")))))))))))))))
    ≡ joined (
    codes "initial for (" ∷ i ∷ codes "= 0; " ∷ i ∷ codes "< " ∷ count ∷ codes "; " ∷ i ∷ codes "= " ∷ i ∷ codes "+ 1) " ∷
    words ∷ codes "[" ∷ i ∷ codes "] = " ∷ (width ++ codes "'d0") ∷ codes ";" ∷ [])
start_text i count words width = simp append_assoc

pub word_put : (a b c words place : Text) → b ≡ a ++ (words ++ codes "[") → c ≡ b ++ place → c ++ codes "]" ≡ a ++ (words ++ codes "[" ++ place ++ codes "]")
word_put a b c words place h1 h2 = rw (h2, h1) (simp append_assoc)

value_parts : (a o t m w s v z : Text) → a ++ o ++ t ++ m ++ w ++ (s ++ (v ++ z)) ≡ a ++ (o ++ t ++ m ++ w ++ s ++ (v ++ z))
value_parts a o t m w s v z = simp append_assoc

pub value_put : (a b c d e within word width : Text) → b ≡ a ++ codes "(" → c ≡ b ++ within → d ≡ c ++ codes ") ? " → e ≡ d ++ word
    → e ++ (codes " : " ++ (width ++ codes "'d0")) ≡ a ++ (codes "(" ++ within ++ codes ") ? " ++ word ++ codes " : " ++ (width ++ codes "'d0"))
value_put a b c d e within word width h1 h2 h3 h4 = rw (h4, h3, h2, h1) (value_parts a (codes "(") within (codes ") ? ") word (codes " : ") width (codes "'d0"))

assigned_parts : (a i g t m v s l : Text) → a ++ (i ++ (g ++ (t ++ m))) ++ v ++ (s ++ l) ≡ a ++ (i ++ (g ++ t ++ m ++ v ++ s) ++ l)
assigned_parts a i g t m v s l = simp append_assoc

-- an assignment, whose value is put in between
pub assigned_put : (a b c target value : Text) → b ≡ a ++ (codes "  assign " ++ (target ++ codes "= ")) → c ≡ b ++ value → c ++ codes ";\n" ≡ a ++ inner_line (assignment target value)
assigned_put a b c target value h1 h2 = rw (h2, h1) (assigned_parts a (codes "  ") (codes "assign ") target (codes "= ") value (codes ";") (codes "\n"))

pub write_test_put : (a b c write_en within : Text) → b ≡ a ++ (write_en ++ codes "&& (") → c ≡ b ++ within → c ++ codes ")" ≡ a ++ (write_en ++ codes "&& (" ++ within ++ codes ")")
write_test_put a b c write_en within h1 h2 = rw (h2, h1) (simp append_assoc)

edge_parts : (a l y b d m w i t p x n v z e : Text) →
    a ++ (l ++ y ++ b ++ (d ++ (m ++ (w ++ i)))) ++ t ++ p ++ x ++ (n ++ (v ++ (z ++ e))) ≡ a ++ (l ++ (y ++ (b ++ (d ++ (m ++ (w ++ (i ++ (t ++ (p ++ (x ++ (n ++ (v ++ z))))))))))) ++ e)
edge_parts a l y b d m w i t p x n v z e = simp append_assoc

pub edge_put : (a b c d e done write_en test word written : Text)
    → b ≡ a ++ (codes "  always @(posedge \\$clk ) begin " ++ (done ++ (codes "<= " ++ (write_en ++ codes "; if (")))) → c ≡ b ++ test
    → d ≡ c ++ codes ") " → e ≡ d ++ word
    → e ++ (codes " <= " ++ (written ++ codes "; end\n")) ≡ a ++ inner_line (clocked (joined (
    codes "begin " ∷ done ∷ codes "<= " ∷ write_en ∷ codes "; if (" ∷ test ∷ codes ") " ∷
    word ∷ codes " <= " ∷ written ∷ codes "; end" ∷ [])))
edge_put a b c d e done write_en test word written h1 h2 h3 h4 =
    rw (h4, h3, h2, h1)
    (edge_parts a (codes "  ") (codes "always @(posedge \\$clk ) ") (codes "begin ") done (codes "<= ") write_en (codes "; if (") test (codes ") ") word (codes " <= ") written (codes "; end") (codes "\n"))

-- ---- addresses

pub below_put : (address idx size : Text) → address ++ (codes "< " ++ (idx ++ (codes "'d" ++ (size ++ [])))) ≡ address ++ codes "< " ++ (idx ++ codes "'d" ++ size)
below_put address idx size = simp (append_assoc, append-nil)

pub both_put : (a b c below above : Text) → b ≡ a ++ below → c ≡ b ++ codes " && " → c ++ above ≡ a ++ (below ++ codes " && " ++ above)
both_put a b c below above h1 h2 = rw (h2, h1) (simp append_assoc)

pub lower_put : (address high : Text) → address ++ (codes "[" ++ (high ++ codes ":0]")) ≡ address ++ (codes "[" ++ high ++ codes ":0]")
lower_put address high = simp append_assoc

pub index_put : (a b c d row between bits size column : Text) → b ≡ a ++ row → c ≡ b ++ between → d ≡ c ++ (codes "* " ++ (bits ++ (codes "'d" ++ (size ++ codes " + "))))
    → d ++ column ≡ a ++ (row ++ between ++ codes "* " ++ (bits ++ codes "'d" ++ size) ++ codes " + " ++ column)
index_put a b c d row between bits size column h1 h2 h3 = rw (h3, h2, h1) (simp append_assoc)

pub padded_put : (zeros port : Text) → codes "{" ++ (zeros ++ (codes "'d0, " ++ (port ++ codes "}"))) ≡ codes "{" ++ (zeros ++ codes "'d0") ++ codes ", " ++ port ++ codes "}"
padded_put zeros port = simp append_assoc

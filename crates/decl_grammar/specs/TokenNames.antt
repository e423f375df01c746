-- The keywords (JLS 3.9) and the separators and operators (JLS 3.11, 3.12) by name, each with its number in the table of java_tokens/specs/Words.
-- Written by tools/automaton.py from these tables. It refuses a number that is not the table's.
use Rattle.std.specs.Prelude.{ℕ}

-- ---- keywords

abbrev pub abstract : ℕ
abstract = 0

abbrev pub assert : ℕ
assert = 1

abbrev pub boolean : ℕ
boolean = 2

abbrev pub break : ℕ
break = 3

abbrev pub byte : ℕ
byte = 4

abbrev pub case : ℕ
case = 5

abbrev pub catch : ℕ
catch = 6

abbrev pub char : ℕ
char = 7

abbrev pub class : ℕ
class = 8

abbrev pub const : ℕ
const = 9

abbrev pub continue : ℕ
continue = 10

abbrev pub default : ℕ
default = 11

-- `do`
abbrev pub «do» : ℕ
«do» = 12

abbrev pub double : ℕ
double = 13

abbrev pub else : ℕ
else = 14

abbrev pub enum : ℕ
enum = 15

abbrev pub extends : ℕ
extends = 16

abbrev pub final : ℕ
final = 17

abbrev pub finally : ℕ
finally = 18

abbrev pub float : ℕ
float = 19

abbrev pub for : ℕ
for = 20

abbrev pub goto : ℕ
goto = 21

abbrev pub if : ℕ
if = 22

abbrev pub implements : ℕ
implements = 23

abbrev pub import : ℕ
import = 24

abbrev pub instanceof : ℕ
instanceof = 25

abbrev pub int : ℕ
int = 26

abbrev pub interface : ℕ
interface = 27

abbrev pub long : ℕ
long = 28

abbrev pub native : ℕ
native = 29

abbrev pub new : ℕ
new = 30

-- `package`
abbrev pub «package» : ℕ
«package» = 31

abbrev pub private : ℕ
private = 32

abbrev pub protected : ℕ
protected = 33

abbrev pub public : ℕ
public = 34

abbrev pub return : ℕ
return = 35

abbrev pub short : ℕ
short = 36

abbrev pub static : ℕ
static = 37

abbrev pub strictfp : ℕ
strictfp = 38

abbrev pub super : ℕ
super = 39

abbrev pub switch : ℕ
switch = 40

abbrev pub synchronized : ℕ
synchronized = 41

abbrev pub this : ℕ
this = 42

abbrev pub throw : ℕ
throw = 43

abbrev pub throws : ℕ
throws = 44

abbrev pub transient : ℕ
transient = 45

abbrev pub try : ℕ
try = 46

abbrev pub void : ℕ
void = 47

abbrev pub volatile : ℕ
volatile = 48

abbrev pub while : ℕ
while = 49

-- `_`
abbrev pub underscore : ℕ
underscore = 50

-- ---- separators and operators

-- `(`
abbrev pub open_parenthesis : ℕ
open_parenthesis = 0

-- `)`
abbrev pub close_parenthesis : ℕ
close_parenthesis = 1

-- `{`
abbrev pub open_brace : ℕ
open_brace = 2

-- `}`
abbrev pub close_brace : ℕ
close_brace = 3

-- `[`
abbrev pub open_bracket : ℕ
open_bracket = 4

-- `]`
abbrev pub close_bracket : ℕ
close_bracket = 5

-- `;`
abbrev pub semicolon : ℕ
semicolon = 6

-- `,`
abbrev pub comma : ℕ
comma = 7

-- `.`
abbrev pub dot : ℕ
dot = 8

-- `...`
abbrev pub ellipsis : ℕ
ellipsis = 9

-- `@`
abbrev pub at : ℕ
at = 10

-- `::`
abbrev pub double_colon : ℕ
double_colon = 11

-- `=`
abbrev pub equals : ℕ
equals = 12

-- `>`
abbrev pub greater_than : ℕ
greater_than = 13

-- `<`
abbrev pub less_than : ℕ
less_than = 14

-- `!`
abbrev pub exclamation : ℕ
exclamation = 15

-- `~`
abbrev pub tilde : ℕ
tilde = 16

-- `?`
abbrev pub question : ℕ
question = 17

-- `:`
abbrev pub colon : ℕ
colon = 18

-- `->`
abbrev pub arrow : ℕ
arrow = 19

-- `==`
abbrev pub double_equals : ℕ
double_equals = 20

-- `>=`
abbrev pub greater_or_equal : ℕ
greater_or_equal = 21

-- `<=`
abbrev pub less_or_equal : ℕ
less_or_equal = 22

-- `!=`
abbrev pub not_equal : ℕ
not_equal = 23

-- `&&`
abbrev pub double_ampersand : ℕ
double_ampersand = 24

-- `||`
abbrev pub double_bar : ℕ
double_bar = 25

-- `++`
abbrev pub increment : ℕ
increment = 26

-- `--`
abbrev pub decrement : ℕ
decrement = 27

-- `+`
abbrev pub plus : ℕ
plus = 28

-- `-`
abbrev pub minus : ℕ
minus = 29

-- `*`
abbrev pub star : ℕ
star = 30

-- `/`
abbrev pub slash : ℕ
slash = 31

-- `&`
abbrev pub ampersand : ℕ
ampersand = 32

-- `|`
abbrev pub bar : ℕ
bar = 33

-- `^`
abbrev pub caret : ℕ
caret = 34

-- `%`
abbrev pub percent : ℕ
percent = 35

-- `<<`
abbrev pub shift_left : ℕ
shift_left = 36

-- `>>`
abbrev pub shift_right : ℕ
shift_right = 37

-- `>>>`
abbrev pub unsigned_shift_right : ℕ
unsigned_shift_right = 38

-- `+=`
abbrev pub plus_equals : ℕ
plus_equals = 39

-- `-=`
abbrev pub minus_equals : ℕ
minus_equals = 40

-- `*=`
abbrev pub star_equals : ℕ
star_equals = 41

-- `/=`
abbrev pub slash_equals : ℕ
slash_equals = 42

-- `&=`
abbrev pub ampersand_equals : ℕ
ampersand_equals = 43

-- `|=`
abbrev pub bar_equals : ℕ
bar_equals = 44

-- `^=`
abbrev pub caret_equals : ℕ
caret_equals = 45

-- `%=`
abbrev pub percent_equals : ℕ
percent_equals = 46

-- `<<=`
abbrev pub shift_left_equals : ℕ
shift_left_equals = 47

-- `>>=`
abbrev pub shift_right_equals : ℕ
shift_right_equals = 48

-- `>>>=`
abbrev pub unsigned_shift_right_equals : ℕ
unsigned_shift_right_equals = 49

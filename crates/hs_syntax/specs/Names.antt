-- The classes of tokens and the rules, by their names, made by grammar/make_literal.py.
use Rattle.std.specs.Prelude.{ℕ}

abbrev pub number_0 : ℕ
number_0 = 1

abbrev pub number_1 : ℕ
number_1 = 2

abbrev pub number_2 : ℕ
number_2 = 3

abbrev pub number_3 : ℕ
number_3 = 4

abbrev pub number_4 : ℕ
number_4 = 5

abbrev pub number_5 : ℕ
number_5 = 6

abbrev pub number_6 : ℕ
number_6 = 7

abbrev pub number_7 : ℕ
number_7 = 8

abbrev pub number_8 : ℕ
number_8 = 9

abbrev pub number_9 : ℕ
number_9 = 10

abbrev pub number_10 : ℕ
number_10 = 11

abbrev pub number_11 : ℕ
number_11 = 12

abbrev pub number_12 : ℕ
number_12 = 13

abbrev pub number_13 : ℕ
number_13 = 14

abbrev pub number_14 : ℕ
number_14 = 15

abbrev pub number_15 : ℕ
number_15 = 16

abbrev pub number_16 : ℕ
number_16 = 17

abbrev pub number_17 : ℕ
number_17 = 18

abbrev pub number_18 : ℕ
number_18 = 19

abbrev pub number_19 : ℕ
number_19 = 20

abbrev pub number_20 : ℕ
number_20 = 21

abbrev pub number_21 : ℕ
number_21 = 22

abbrev pub number_22 : ℕ
number_22 = 23

abbrev pub number_23 : ℕ
number_23 = 24

abbrev pub number_24 : ℕ
number_24 = 25

abbrev pub number_25 : ℕ
number_25 = 26

abbrev pub number_26 : ℕ
number_26 = 27

abbrev pub number_27 : ℕ
number_27 = 28

abbrev pub number_28 : ℕ
number_28 = 29

abbrev pub number_29 : ℕ
number_29 = 30

abbrev pub number_30 : ℕ
number_30 = 31

abbrev pub number_31 : ℕ
number_31 = 32

abbrev pub number_32 : ℕ
number_32 = 33

abbrev pub number_33 : ℕ
number_33 = 34

abbrev pub number_34 : ℕ
number_34 = 35

abbrev pub number_35 : ℕ
number_35 = 36

abbrev pub number_36 : ℕ
number_36 = 37

abbrev pub number_37 : ℕ
number_37 = 38

abbrev pub number_38 : ℕ
number_38 = 39

abbrev pub number_4000 : ℕ
number_4000 = 40

abbrev pub above : ℕ
above = 41

abbrev pub fraction : ℕ
fraction = 42

abbrev pub digit_text : ℕ
digit_text = 43

abbrev pub other_text : ℕ
other_text = 44

abbrev pub identifier : ℕ
identifier = 45

abbrev pub FALSE : ℕ
FALSE = 46

abbrev pub left_parenthesis : ℕ
left_parenthesis = 47

abbrev pub right_parenthesis : ℕ
right_parenthesis = 48

abbrev pub comma : ℕ
comma = 49

abbrev pub point : ℕ
point = 50

abbrev pub star : ℕ
star = 51

abbrev pub plus : ℕ
plus = 52

abbrev pub minus : ℕ
minus = 53

abbrev pub slash : ℕ
slash = 54

abbrev pub equal : ℕ
equal = 55

abbrev pub unequal : ℕ
unequal = 56

abbrev pub not_equal : ℕ
not_equal = 57

abbrev pub less : ℕ
less = 58

abbrev pub less_or_equal : ℕ
less_or_equal = 59

abbrev pub greater : ℕ
greater = 60

abbrev pub greater_or_equal : ℕ
greater_or_equal = 61

abbrev pub concatenate : ℕ
concatenate = 62

abbrev pub semicolon_mark : ℕ
semicolon_mark = 63

abbrev pub ACTION : ℕ
ACTION = 64

abbrev pub AUTOCOMMIT : ℕ
AUTOCOMMIT = 65

abbrev pub CACHED : ℕ
CACHED = 66

abbrev pub CHARACTERISTICS : ℕ
CHARACTERISTICS = 67

abbrev pub CHECKPOINT : ℕ
CHECKPOINT = 68

abbrev pub COMMITTED : ℕ
COMMITTED = 69

abbrev pub CONTROL : ℕ
CONTROL = 70

abbrev pub DATABASE : ℕ
DATABASE = 71

abbrev pub DELAY : ℕ
DELAY = 72

abbrev pub FILES : ℕ
FILES = 73

abbrev pub ISOLATION : ℕ
ISOLATION = 74

abbrev pub KEY : ℕ
KEY = 75

abbrev pub LEVEL : ℕ
LEVEL = 76

abbrev pub LOCKS : ℕ
LOCKS = 77

abbrev pub MEMORY : ℕ
MEMORY = 78

abbrev pub MVCC : ℕ
MVCC = 79

abbrev pub MVLOCKS : ℕ
MVLOCKS = 80

abbrev pub REPEATABLE : ℕ
REPEATABLE = 81

abbrev pub SERIALIZABLE : ℕ
SERIALIZABLE = 82

abbrev pub SESSION : ℕ
SESSION = 83

abbrev pub SHUTDOWN : ℕ
SHUTDOWN = 84

abbrev pub TRANSACTION : ℕ
TRANSACTION = 85

abbrev pub WORK : ℕ
WORK = 86

abbrev pub WRITE : ℕ
WRITE = 87

abbrev pub ABS : ℕ
ABS = 88

abbrev pub ADD : ℕ
ADD = 89

abbrev pub ALL : ℕ
ALL = 90

abbrev pub ALTER : ℕ
ALTER = 91

abbrev pub AND : ℕ
AND = 92

abbrev pub AS : ℕ
AS = 93

abbrev pub ASC : ℕ
ASC = 94

abbrev pub AVG : ℕ
AVG = 95

abbrev pub BETWEEN : ℕ
BETWEEN = 96

abbrev pub BIGINT : ℕ
BIGINT = 97

abbrev pub BOOLEAN : ℕ
BOOLEAN = 98

abbrev pub BOTH : ℕ
BOTH = 99

abbrev pub BY : ℕ
BY = 100

abbrev pub CASCADE : ℕ
CASCADE = 101

abbrev pub CASE : ℕ
CASE = 102

abbrev pub CAST : ℕ
CAST = 103

abbrev pub CHAR_LENGTH : ℕ
CHAR_LENGTH = 104

abbrev pub CHECK : ℕ
CHECK = 105

abbrev pub COALESCE : ℕ
COALESCE = 106

abbrev pub COLUMN : ℕ
COLUMN = 107

abbrev pub COMMIT : ℕ
COMMIT = 108

abbrev pub CONSTRAINT : ℕ
CONSTRAINT = 109

abbrev pub COUNT : ℕ
COUNT = 110

abbrev pub CREATE : ℕ
CREATE = 111

abbrev pub CROSS : ℕ
CROSS = 112

abbrev pub DATE : ℕ
DATE = 113

abbrev pub DAY : ℕ
DAY = 114

abbrev pub DECIMAL : ℕ
DECIMAL = 115

abbrev pub DEFAULT : ℕ
DEFAULT = 116

abbrev pub DELETE : ℕ
DELETE = 117

abbrev pub DESC : ℕ
DESC = 118

abbrev pub DISTINCT : ℕ
DISTINCT = 119

abbrev pub DROP : ℕ
DROP = 120

abbrev pub ELSE : ℕ
ELSE = 121

abbrev pub END : ℕ
END = 122

abbrev pub ESCAPE : ℕ
ESCAPE = 123

abbrev pub EXCEPT : ℕ
EXCEPT = 124

abbrev pub EXISTS : ℕ
EXISTS = 125

abbrev pub EXTRACT : ℕ
EXTRACT = 126

abbrev pub FOR : ℕ
FOR = 127

abbrev pub FOREIGN : ℕ
FOREIGN = 128

abbrev pub FROM : ℕ
FROM = 129

abbrev pub GROUP : ℕ
GROUP = 130

abbrev pub HAVING : ℕ
HAVING = 131

abbrev pub HOUR : ℕ
HOUR = 132

abbrev pub IN : ℕ
IN = 133

abbrev pub INDEX : ℕ
INDEX = 134

abbrev pub INNER : ℕ
INNER = 135

abbrev pub INSERT : ℕ
INSERT = 136

abbrev pub INT : ℕ
INT = 137

abbrev pub INTEGER : ℕ
INTEGER = 138

abbrev pub INTERSECT : ℕ
INTERSECT = 139

abbrev pub INTERVAL : ℕ
INTERVAL = 140

abbrev pub INTO : ℕ
INTO = 141

abbrev pub IS : ℕ
IS = 142

abbrev pub JOIN : ℕ
JOIN = 143

abbrev pub LEADING : ℕ
LEADING = 144

abbrev pub LEFT : ℕ
LEFT = 145

abbrev pub LIKE : ℕ
LIKE = 146

abbrev pub LIMIT : ℕ
LIMIT = 147

abbrev pub LOCK : ℕ
LOCK = 148

abbrev pub LOWER : ℕ
LOWER = 149

abbrev pub MAX : ℕ
MAX = 150

abbrev pub MIN : ℕ
MIN = 151

abbrev pub MINUTE : ℕ
MINUTE = 152

abbrev pub MOD : ℕ
MOD = 153

abbrev pub MONTH : ℕ
MONTH = 154

abbrev pub NO : ℕ
NO = 155

abbrev pub NOT : ℕ
NOT = 156

abbrev pub NULL : ℕ
NULL = 157

abbrev pub NULLIF : ℕ
NULLIF = 158

abbrev pub NUMERIC : ℕ
NUMERIC = 159

abbrev pub OFFSET : ℕ
OFFSET = 160

abbrev pub ON : ℕ
ON = 161

abbrev pub ONLY : ℕ
ONLY = 162

abbrev pub OR : ℕ
OR = 163

abbrev pub ORDER : ℕ
ORDER = 164

abbrev pub OUTER : ℕ
OUTER = 165

abbrev pub PRIMARY : ℕ
PRIMARY = 166

abbrev pub READ : ℕ
READ = 167

abbrev pub REFERENCES : ℕ
REFERENCES = 168

abbrev pub RELEASE : ℕ
RELEASE = 169

abbrev pub RESTRICT : ℕ
RESTRICT = 170

abbrev pub ROLLBACK : ℕ
ROLLBACK = 171

abbrev pub SAVEPOINT : ℕ
SAVEPOINT = 172

abbrev pub SECOND : ℕ
SECOND = 173

abbrev pub SELECT : ℕ
SELECT = 174

abbrev pub SET : ℕ
SET = 175

abbrev pub SMALLINT : ℕ
SMALLINT = 176

abbrev pub START : ℕ
START = 177

abbrev pub SUBSTRING : ℕ
SUBSTRING = 178

abbrev pub SUM : ℕ
SUM = 179

abbrev pub TABLE : ℕ
TABLE = 180

abbrev pub THEN : ℕ
THEN = 181

abbrev pub TIMESTAMP : ℕ
TIMESTAMP = 182

abbrev pub TO : ℕ
TO = 183

abbrev pub TRAILING : ℕ
TRAILING = 184

abbrev pub TRIM : ℕ
TRIM = 185

abbrev pub TRUE : ℕ
TRUE = 186

abbrev pub UNION : ℕ
UNION = 187

abbrev pub UNIQUE : ℕ
UNIQUE = 188

abbrev pub UPDATE : ℕ
UPDATE = 189

abbrev pub UPPER : ℕ
UPPER = 190

abbrev pub VALUES : ℕ
VALUES = 191

abbrev pub VARCHAR : ℕ
VARCHAR = 192

abbrev pub WHEN : ℕ
WHEN = 193

abbrev pub WHERE : ℕ
WHERE = 194

abbrev pub YEAR : ℕ
YEAR = 195

abbrev pub BLOB : ℕ
BLOB = 196

abbrev pub CHAR : ℕ
CHAR = 197

abbrev pub CLOB : ℕ
CLOB = 198

abbrev pub DOUBLE : ℕ
DOUBLE = 199

abbrev pub FLOAT : ℕ
FLOAT = 200

abbrev pub REAL : ℕ
REAL = 201

abbrev pub VARBINARY : ℕ
VARBINARY = 202

abbrev pub UNCOMMITTED : ℕ
UNCOMMITTED = 203

abbrev pub start : ℕ
start = 0

abbrev pub semicolon : ℕ
semicolon = 1

abbrev pub statement : ℕ
statement = 2

abbrev pub work : ℕ
work = 3

abbrev pub rollback : ℕ
rollback = 4

abbrev pub start_modes : ℕ
start_modes = 5

abbrev pub modes : ℕ
modes = 6

abbrev pub modes_more : ℕ
modes_more = 7

abbrev pub mode : ℕ
mode = 8

abbrev pub access : ℕ
access = 9

abbrev pub level : ℕ
level = 10

abbrev pub committed : ℕ
committed = 11

abbrev pub name : ℕ
name = 12

abbrev pub names : ℕ
names = 13

abbrev pub names_more : ℕ
names_more = 14

abbrev pub number : ℕ
number = 15

abbrev pub text : ℕ
text = 16

abbrev pub literal : ℕ
literal = 17

abbrev pub query : ℕ
query = 18

abbrev pub ordering : ℕ
ordering = 47

abbrev pub keys : ℕ
keys = 48

abbrev pub keys_more : ℕ
keys_more = 49

abbrev pub limiting : ℕ
limiting = 52

abbrev pub limit : ℕ
limit = 53

abbrev pub offset : ℕ
offset = 54

abbrev pub body : ℕ
body = 19

abbrev pub body_more : ℕ
body_more = 20

abbrev pub union : ℕ
union = 21

abbrev pub term : ℕ
term = 22

abbrev pub term_more : ℕ
term_more = 23

abbrev pub core : ℕ
core = 24

abbrev pub select : ℕ
select = 25

abbrev pub distinct : ℕ
distinct = 26

abbrev pub items : ℕ
items = 27

abbrev pub items_more : ℕ
items_more = 28

abbrev pub froms : ℕ
froms = 31

abbrev pub froms_more : ℕ
froms_more = 32

abbrev pub where_part : ℕ
where_part = 38

abbrev pub group : ℕ
group = 39

abbrev pub group_more : ℕ
group_more = 40

abbrev pub having : ℕ
having = 41

abbrev pub es : ℕ
es = 42

abbrev pub es_more : ℕ
es_more = 43

abbrev pub rows : ℕ
rows = 44

abbrev pub rows_more : ℕ
rows_more = 45

abbrev pub row : ℕ
row = 46

abbrev pub item : ℕ
item = 29

abbrev pub alias : ℕ
alias = 30

abbrev pub from : ℕ
from = 33

abbrev pub joins : ℕ
joins = 34

abbrev pub outer : ℕ
outer = 35

abbrev pub table : ℕ
table = 36

abbrev pub as_part : ℕ
as_part = 37

abbrev pub key : ℕ
key = 50

abbrev pub direction : ℕ
direction = 51

abbrev pub insert : ℕ
insert = 55

abbrev pub source : ℕ
source = 56

abbrev pub contents : ℕ
contents = 256

abbrev pub tuples : ℕ
tuples = 257

abbrev pub tuples_more : ℕ
tuples_more = 258

abbrev pub tuple : ℕ
tuple = 259

abbrev pub values_more : ℕ
values_more = 260

abbrev pub tuple_value : ℕ
tuple_value = 261

abbrev pub inserted_query : ℕ
inserted_query = 262

abbrev pub query_tail : ℕ
query_tail = 60

abbrev pub rows_of_values : ℕ
rows_of_values = 263

abbrev pub rows_of_values_more : ℕ
rows_of_values_more = 264

abbrev pub row_of_values : ℕ
row_of_values = 265

abbrev pub row_of_values_more : ℕ
row_of_values_more = 266

abbrev pub behind_rows : ℕ
behind_rows = 267

abbrev pub update : ℕ
update = 68

abbrev pub pairs_more : ℕ
pairs_more = 70

abbrev pub pair : ℕ
pair = 71

abbrev pub value : ℕ
value = 72

abbrev pub update_where : ℕ
update_where = 69

abbrev pub delete : ℕ
delete = 73

abbrev pub delete_where : ℕ
delete_where = 74

abbrev pub lock : ℕ
lock = 75

abbrev pub claims_more : ℕ
claims_more = 76

abbrev pub claim : ℕ
claim = 77

abbrev pub claimed : ℕ
claimed = 78

abbrev pub create : ℕ
create = 79

abbrev pub created : ℕ
created = 80

abbrev pub table_definition : ℕ
table_definition = 268

abbrev pub elements_more : ℕ
elements_more = 82

abbrev pub element : ℕ
element = 83

abbrev pub column : ℕ
column = 84

abbrev pub default : ℕ
default = 85

abbrev pub signed_literal : ℕ
signed_literal = 86

abbrev pub column_constraints : ℕ
column_constraints = 87

abbrev pub column_rule : ℕ
column_rule = 88

abbrev pub referenced_name : ℕ
referenced_name = 89

abbrev pub table_constraint : ℕ
table_constraint = 95

abbrev pub table_rule : ℕ
table_rule = 96

abbrev pub referenced_names : ℕ
referenced_names = 90

abbrev pub actions : ℕ
actions = 91

abbrev pub acting : ℕ
acting = 92

abbrev pub action : ℕ
action = 93

abbrev pub set_to : ℕ
set_to = 94

abbrev pub type : ℕ
type = 97

abbrev pub decimal : ℕ
decimal = 98

abbrev pub alter : ℕ
alter = 100

abbrev pub altered : ℕ
altered = 101

abbrev pub added : ℕ
added = 102

abbrev pub drop : ℕ
drop = 103

abbrev pub dropped : ℕ
dropped = 104

abbrev pub set : ℕ
set = 105

abbrev pub setting : ℕ
setting = 106

abbrev pub database_setting : ℕ
database_setting = 107

abbrev pub control : ℕ
control = 108

abbrev pub default_level : ℕ
default_level = 109

abbrev pub default_committed : ℕ
default_committed = 110

abbrev pub truth : ℕ
truth = 111

abbrev pub write_delay : ℕ
write_delay = 112

abbrev pub e : ℕ
e = 113

abbrev pub or_more : ℕ
or_more = 114

abbrev pub conjunction : ℕ
conjunction = 115

abbrev pub and_more : ℕ
and_more = 116

abbrev pub negation : ℕ
negation = 117

abbrev pub compared : ℕ
compared = 118

abbrev pub comparison : ℕ
comparison = 119

abbrev pub is : ℕ
is = 120

abbrev pub negated : ℕ
negated = 121

abbrev pub in_part : ℕ
in_part = 158

abbrev pub escape : ℕ
escape = 122

abbrev pub sum : ℕ
sum = 123

abbrev pub sum_more : ℕ
sum_more = 124

abbrev pub addition : ℕ
addition = 125

abbrev pub product : ℕ
product = 126

abbrev pub product_more : ℕ
product_more = 127

abbrev pub multiplication : ℕ
multiplication = 128

abbrev pub unary : ℕ
unary = 129

abbrev pub sign : ℕ
sign = 130

abbrev pub primary : ℕ
primary = 131

abbrev pub ordered : ℕ
ordered = 269

abbrev pub intervals : ℕ
intervals = 132

abbrev pub interval : ℕ
interval = 133

abbrev pub plus_unit : ℕ
plus_unit = 134

abbrev pub minus_unit : ℕ
minus_unit = 135

abbrev pub simple : ℕ
simple = 136

abbrev pub qualified : ℕ
qualified = 137

abbrev pub arms : ℕ
arms = 138

abbrev pub else : ℕ
else = 139

abbrev pub for : ℕ
for = 140

abbrev pub trim : ℕ
trim = 141

abbrev pub trim_side : ℕ
trim_side = 142

abbrev pub trim_tail : ℕ
trim_tail = 143

abbrev pub field : ℕ
field = 144

abbrev pub count : ℕ
count = 145

abbrev pub counted : ℕ
counted = 146

-- the rule of the table for a scale
abbrev pub scale : ℕ
scale = 99

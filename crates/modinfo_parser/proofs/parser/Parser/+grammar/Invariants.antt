-- Each function of the grammar lets the text nest less deep.
use Rattle.std.proofs.Common.{◌≡◌}
use Rattle.modinfo_parser.proofs.parser.Parser.+grammar.Given as goal

abbrev pub decreases-call : goal.decreases-call
decreases-call l = l.depth

abbrev pub decreases-arguments_before : goal.decreases-arguments_before
decreases-arguments_before l = l.depth

abbrev pub decreases-arguments : goal.decreases-arguments
decreases-arguments l = l.depth

abbrev pub decreases-kept_arguments : goal.decreases-kept_arguments
decreases-kept_arguments l = l.depth

abbrev pub decreases-list_of_arguments : goal.decreases-list_of_arguments
decreases-list_of_arguments l = l.depth

abbrev pub invariant-list_of_arguments-loop-turn : goal.invariant-list_of_arguments-loop-turn
invariant-list_of_arguments-loop-turn l = l.depth ≡ l.fn.depth

abbrev pub decreases-argument : goal.decreases-argument
decreases-argument l = l.depth

abbrev pub decreases-arrow_body : goal.decreases-arrow_body
decreases-arrow_body l = l.depth

abbrev pub decreases-body_of_arrow : goal.decreases-body_of_arrow
decreases-body_of_arrow l = l.depth

abbrev pub decreases-try_type_parameters : goal.decreases-try_type_parameters
decreases-try_type_parameters l = l.depth

abbrev pub decreases-type_parameters_before_parenthesis : goal.decreases-type_parameters_before_parenthesis
decreases-type_parameters_before_parenthesis l = l.depth

abbrev pub decreases-generic_arrow : goal.decreases-generic_arrow
decreases-generic_arrow l = l.depth

abbrev pub decreases-binding : goal.decreases-binding
decreases-binding l = l.depth

abbrev pub decreases-variables : goal.decreases-variables
decreases-variables l = l.depth

abbrev pub invariant-variables-loop-turn : goal.invariant-variables-loop-turn
invariant-variables-loop-turn l = l.depth ≡ l.fn.depth

abbrev pub decreases-variable : goal.decreases-variable
decreases-variable l = l.depth

abbrev pub decreases-class_expression : goal.decreases-class_expression
decreases-class_expression l = l.depth

abbrev pub decreases-decorated_class : goal.decreases-decorated_class
decreases-decorated_class l = l.depth

abbrev pub decreases-class_after_name : goal.decreases-class_after_name
decreases-class_after_name l = l.depth

abbrev pub decreases-superclass : goal.decreases-superclass
decreases-superclass l = l.depth

abbrev pub decreases-class_body : goal.decreases-class_body
decreases-class_body l = l.depth

abbrev pub invariant-class_body-loop-turn : goal.invariant-class_body-loop-turn
invariant-class_body-loop-turn l = l.depth ≡ l.fn.depth

abbrev pub decreases-decorators : goal.decreases-decorators
decreases-decorators l = l.depth

abbrev pub invariant-decorators-loop-turn : goal.invariant-decorators-loop-turn
invariant-decorators-loop-turn l = l.depth ≡ l.fn.depth

abbrev pub decreases-decorator : goal.decreases-decorator
decreases-decorator l = l.depth

abbrev pub invariant-decorator-loop-turn : goal.invariant-decorator-loop-turn
invariant-decorator-loop-turn l = l.depth ≡ l.fn.depth

abbrev pub decreases-declaration_or_expression : goal.decreases-declaration_or_expression
decreases-declaration_or_expression l = l.depth

abbrev pub decreases-variable_statement : goal.decreases-variable_statement
decreases-variable_statement l = l.depth

abbrev pub decreases-decorated_item : goal.decreases-decorated_item
decreases-decorated_item l = l.depth

abbrev pub decreases-decorated_class_declaration : goal.decreases-decorated_class_declaration
decreases-decorated_class_declaration l = l.depth

abbrev pub decreases-class_after_decorators : goal.decreases-class_after_decorators
decreases-class_after_decorators l = l.depth

abbrev pub decreases-class_declaration : goal.decreases-class_declaration
decreases-class_declaration l = l.depth

abbrev pub decreases-function_declaration : goal.decreases-function_declaration
decreases-function_declaration l = l.depth

abbrev pub decreases-export : goal.decreases-export
decreases-export l = l.depth

abbrev pub decreases-export_from : goal.decreases-export_from
decreases-export_from l = l.depth

abbrev pub decreases-export_default : goal.decreases-export_default
decreases-export_default l = l.depth

abbrev pub decreases-default_of_typescript : goal.decreases-default_of_typescript
decreases-default_of_typescript l = l.depth

abbrev pub decreases-exported_declaration : goal.decreases-exported_declaration
decreases-exported_declaration l = l.depth

abbrev pub decreases-expression : goal.decreases-expression
decreases-expression l = l.depth

abbrev pub invariant-expression-loop-turn : goal.invariant-expression-loop-turn
invariant-expression-loop-turn l = l.depth ≡ l.fn.depth

abbrev pub decreases-bracketed_expression : goal.decreases-bracketed_expression
decreases-bracketed_expression l = l.depth

abbrev pub decreases-assignment : goal.decreases-assignment
decreases-assignment l = l.depth

abbrev pub decreases-rest_of_assignment : goal.decreases-rest_of_assignment
decreases-rest_of_assignment l = l.depth

abbrev pub invariant-rest_of_assignment-loop-turn : goal.invariant-rest_of_assignment-loop-turn
invariant-rest_of_assignment-loop-turn l = l.depth ≡ l.fn.depth

abbrev pub decreases-middle_of_conditional : goal.decreases-middle_of_conditional
decreases-middle_of_conditional l = l.depth

abbrev pub decreases-assignment_operand : goal.decreases-assignment_operand
decreases-assignment_operand l = l.depth

abbrev pub decreases-rest_of_binary : goal.decreases-rest_of_binary
decreases-rest_of_binary l = l.depth

abbrev pub invariant-rest_of_binary-loop-turn : goal.invariant-rest_of_binary-loop-turn
invariant-rest_of_binary-loop-turn l = l.depth ≡ l.fn.depth

abbrev pub decreases-binary_operand : goal.decreases-binary_operand
decreases-binary_operand l = l.depth

abbrev pub decreases-type_in_expression : goal.decreases-type_in_expression
decreases-type_in_expression l = l.depth

abbrev pub decreases-unary : goal.decreases-unary
decreases-unary l = l.depth

abbrev pub invariant-unary-loop-turn : goal.invariant-unary-loop-turn
invariant-unary-loop-turn l = l.depth ≡ l.fn.depth

abbrev pub decreases-yield_expression : goal.decreases-yield_expression
decreases-yield_expression l = l.depth

abbrev pub decreases-postfix : goal.decreases-postfix
decreases-postfix l = l.depth

abbrev pub decreases-function_expression : goal.decreases-function_expression
decreases-function_expression l = l.depth

abbrev pub decreases-function : goal.decreases-function
decreases-function l = l.depth

abbrev pub decreases-method : goal.decreases-method
decreases-method l = l.depth

abbrev pub decreases-signature_and_body : goal.decreases-signature_and_body
decreases-signature_and_body l = l.depth

abbrev pub decreases-signature : goal.decreases-signature
decreases-signature l = l.depth

abbrev pub decreases-parameters : goal.decreases-parameters
decreases-parameters l = l.depth

abbrev pub decreases-list_of_parameters : goal.decreases-list_of_parameters
decreases-list_of_parameters l = l.depth

abbrev pub invariant-list_of_parameters-loop-turn : goal.invariant-list_of_parameters-loop-turn
invariant-list_of_parameters-loop-turn l = l.depth ≡ l.fn.depth

abbrev pub decreases-parameter : goal.decreases-parameter
decreases-parameter l = l.depth

abbrev pub invariant-parameter-loop-turn : goal.invariant-parameter-loop-turn
invariant-parameter-loop-turn l = l.depth ≡ l.fn.depth

abbrev pub decreases-import_call : goal.decreases-import_call
decreases-import_call l = l.depth

abbrev pub decreases-import_statement : goal.decreases-import_statement
decreases-import_statement l = l.depth

abbrev pub decreases-jsx : goal.decreases-jsx
decreases-jsx l = l.depth

abbrev pub decreases-jsx_operand : goal.decreases-jsx_operand
decreases-jsx_operand l = l.depth

abbrev pub decreases-jsx_element : goal.decreases-jsx_element
decreases-jsx_element l = l.depth

abbrev pub invariant-jsx_element-loop-turn : goal.invariant-jsx_element-loop-turn
invariant-jsx_element-loop-turn l = l.depth ≡ l.fn.depth

abbrev pub decreases-jsx_attribute : goal.decreases-jsx_attribute
decreases-jsx_attribute l = l.depth

abbrev pub decreases-jsx_element_of_attribute : goal.decreases-jsx_element_of_attribute
decreases-jsx_element_of_attribute l = l.depth

abbrev pub decreases-jsx_children : goal.decreases-jsx_children
decreases-jsx_children l = l.depth

abbrev pub invariant-jsx_children-loop-turn : goal.invariant-jsx_children-loop-turn
invariant-jsx_children-loop-turn l = l.depth ≡ l.fn.depth

abbrev pub decreases-jsx_expression : goal.decreases-jsx_expression
decreases-jsx_expression l = l.depth

abbrev pub decreases-while_statement : goal.decreases-while_statement
decreases-while_statement l = l.depth

abbrev pub decreases-do_statement : goal.decreases-do_statement
decreases-do_statement l = l.depth

abbrev pub decreases-for_statement : goal.decreases-for_statement
decreases-for_statement l = l.depth

abbrev pub decreases-for_head : goal.decreases-for_head
decreases-for_head l = l.depth

abbrev pub decreases-for_start : goal.decreases-for_start
decreases-for_start l = l.depth

abbrev pub decreases-class_member : goal.decreases-class_member
decreases-class_member l = l.depth

abbrev pub decreases-member_after_name : goal.decreases-member_after_name
decreases-member_after_name l = l.depth

abbrev pub decreases-field_value : goal.decreases-field_value
decreases-field_value l = l.depth

abbrev pub decreases-static_block : goal.decreases-static_block
decreases-static_block l = l.depth

abbrev pub decreases-index_signature : goal.decreases-index_signature
decreases-index_signature l = l.depth

abbrev pub decreases-property_name : goal.decreases-property_name
decreases-property_name l = l.depth

abbrev pub decreases-object : goal.decreases-object
decreases-object l = l.depth

abbrev pub decreases-properties : goal.decreases-properties
decreases-properties l = l.depth

abbrev pub invariant-properties-loop-turn : goal.invariant-properties-loop-turn
invariant-properties-loop-turn l = l.depth ≡ l.fn.depth

abbrev pub decreases-property : goal.decreases-property
decreases-property l = l.depth

abbrev pub decreases-named_property : goal.decreases-named_property
decreases-named_property l = l.depth

abbrev pub decreases-default_of_shorthand : goal.decreases-default_of_shorthand
decreases-default_of_shorthand l = l.depth

abbrev pub decreases-property_value : goal.decreases-property_value
decreases-property_value l = l.depth

abbrev pub decreases-parenthesized : goal.decreases-parenthesized
decreases-parenthesized l = l.depth

abbrev pub decreases-async_parentheses : goal.decreases-async_parentheses
decreases-async_parentheses l = l.depth

abbrev pub decreases-parentheses : goal.decreases-parentheses
decreases-parentheses l = l.depth

abbrev pub decreases-parenthesized_elements : goal.decreases-parenthesized_elements
decreases-parenthesized_elements l = l.depth

abbrev pub invariant-parenthesized_elements-loop-turn : goal.invariant-parenthesized_elements-loop-turn
invariant-parenthesized_elements-loop-turn l = l.depth ≡ l.fn.depth

abbrev pub decreases-parenthesized_element : goal.decreases-parenthesized_element
decreases-parenthesized_element l = l.depth

abbrev pub decreases-arrow_after_parentheses : goal.decreases-arrow_after_parentheses
decreases-arrow_after_parentheses l = l.depth

abbrev pub decreases-arrow_in_conditional : goal.decreases-arrow_in_conditional
decreases-arrow_in_conditional l = l.depth

abbrev pub decreases-try_return_type : goal.decreases-try_return_type
decreases-try_return_type l = l.depth

abbrev pub decreases-return_type_before_arrow : goal.decreases-return_type_before_arrow
decreases-return_type_before_arrow l = l.depth

abbrev pub decreases-try_typed_arrow : goal.decreases-try_typed_arrow
decreases-try_typed_arrow l = l.depth

abbrev pub decreases-typed_arrow : goal.decreases-typed_arrow
decreases-typed_arrow l = l.depth

abbrev pub decreases-primary : goal.decreases-primary
decreases-primary l = l.depth

abbrev pub decreases-identifier : goal.decreases-identifier
decreases-identifier l = l.depth

abbrev pub decreases-async_operand : goal.decreases-async_operand
decreases-async_operand l = l.depth

abbrev pub decreases-async_name : goal.decreases-async_name
decreases-async_name l = l.depth

abbrev pub decreases-async_generic : goal.decreases-async_generic
decreases-async_generic l = l.depth

abbrev pub decreases-angle : goal.decreases-angle
decreases-angle l = l.depth

abbrev pub decreases-type_assertion : goal.decreases-type_assertion
decreases-type_assertion l = l.depth

abbrev pub decreases-array : goal.decreases-array
decreases-array l = l.depth

abbrev pub decreases-elements : goal.decreases-elements
decreases-elements l = l.depth

abbrev pub invariant-elements-loop-turn : goal.invariant-elements-loop-turn
invariant-elements-loop-turn l = l.depth ≡ l.fn.depth

abbrev pub decreases-element : goal.decreases-element
decreases-element l = l.depth

abbrev pub decreases-module_item : goal.decreases-module_item
decreases-module_item l = l.depth

abbrev pub decreases-module_body : goal.decreases-module_body
decreases-module_body l = l.depth

abbrev pub decreases-items_to_brace : goal.decreases-items_to_brace
decreases-items_to_brace l = l.depth

abbrev pub invariant-items_to_brace-loop-turn : goal.invariant-items_to_brace-loop-turn
invariant-items_to_brace-loop-turn l = l.depth ≡ l.fn.depth

abbrev pub decreases-statement : goal.decreases-statement
decreases-statement l = l.depth

abbrev pub decreases-plain_statement : goal.decreases-plain_statement
decreases-plain_statement l = l.depth

abbrev pub decreases-block : goal.decreases-block
decreases-block l = l.depth

abbrev pub decreases-statements_to_brace : goal.decreases-statements_to_brace
decreases-statements_to_brace l = l.depth

abbrev pub invariant-statements_to_brace-loop-turn : goal.invariant-statements_to_brace-loop-turn
invariant-statements_to_brace-loop-turn l = l.depth ≡ l.fn.depth

abbrev pub decreases-body : goal.decreases-body
decreases-body l = l.depth

abbrev pub decreases-condition : goal.decreases-condition
decreases-condition l = l.depth

abbrev pub decreases-if_statement : goal.decreases-if_statement
decreases-if_statement l = l.depth

abbrev pub invariant-if_statement-loop-turn : goal.invariant-if_statement-loop-turn
invariant-if_statement-loop-turn l = l.depth ≡ l.fn.depth

abbrev pub decreases-return_statement : goal.decreases-return_statement
decreases-return_statement l = l.depth

abbrev pub decreases-throw_statement : goal.decreases-throw_statement
decreases-throw_statement l = l.depth

abbrev pub decreases-with_statement : goal.decreases-with_statement
decreases-with_statement l = l.depth

abbrev pub decreases-try_statement : goal.decreases-try_statement
decreases-try_statement l = l.depth

abbrev pub decreases-catch_clause : goal.decreases-catch_clause
decreases-catch_clause l = l.depth

abbrev pub decreases-switch_statement : goal.decreases-switch_statement
decreases-switch_statement l = l.depth

abbrev pub invariant-switch_statement-loop-turn : goal.invariant-switch_statement-loop-turn
invariant-switch_statement-loop-turn l = l.depth ≡ l.fn.depth

abbrev pub decreases-switch_case : goal.decreases-switch_case
decreases-switch_case l = l.depth

abbrev pub invariant-switch_case-loop-turn : goal.invariant-switch_case-loop-turn
invariant-switch_case-loop-turn l = l.depth ≡ l.fn.depth

abbrev pub decreases-expression_statement : goal.decreases-expression_statement
decreases-expression_statement l = l.depth

abbrev pub decreases-subscripts : goal.decreases-subscripts
decreases-subscripts l = l.depth

abbrev pub invariant-subscripts-loop-turn : goal.invariant-subscripts-loop-turn
invariant-subscripts-loop-turn l = l.depth ≡ l.fn.depth

abbrev pub decreases-computed_member : goal.decreases-computed_member
decreases-computed_member l = l.depth

abbrev pub decreases-optional_member : goal.decreases-optional_member
decreases-optional_member l = l.depth

abbrev pub decreases-tagged_template : goal.decreases-tagged_template
decreases-tagged_template l = l.depth

abbrev pub decreases-new_expression : goal.decreases-new_expression
decreases-new_expression l = l.depth

abbrev pub decreases-constructor : goal.decreases-constructor
decreases-constructor l = l.depth

abbrev pub invariant-constructor-loop-turn : goal.invariant-constructor-loop-turn
invariant-constructor-loop-turn l = l.depth ≡ l.fn.depth

abbrev pub decreases-sum : goal.decreases-sum
decreases-sum l = l.depth

abbrev pub invariant-sum-loop-turn : goal.invariant-sum-loop-turn
invariant-sum-loop-turn l = l.depth ≡ l.fn.depth

abbrev pub decreases-product : goal.decreases-product
decreases-product l = l.depth

abbrev pub invariant-product-loop-turn : goal.invariant-product-loop-turn
invariant-product-loop-turn l = l.depth ≡ l.fn.depth

abbrev pub decreases-template : goal.decreases-template
decreases-template l = l.depth

abbrev pub invariant-template-loop-turn : goal.invariant-template-loop-turn
invariant-template-loop-turn l = l.depth ≡ l.fn.depth

abbrev pub decreases-substitution : goal.decreases-substitution
decreases-substitution l = l.depth

abbrev pub decreases-type_arguments : goal.decreases-type_arguments
decreases-type_arguments l = l.depth

abbrev pub decreases-angle_brackets : goal.decreases-angle_brackets
decreases-angle_brackets l = l.depth

abbrev pub decreases-list_to_greater : goal.decreases-list_to_greater
decreases-list_to_greater l = l.depth

abbrev pub invariant-list_to_greater-loop-turn : goal.invariant-list_to_greater-loop-turn
invariant-list_to_greater-loop-turn l = l.depth ≡ l.fn.depth

abbrev pub decreases-list_of_types : goal.decreases-list_of_types
decreases-list_of_types l = l.depth

abbrev pub invariant-list_of_types-loop-turn : goal.invariant-list_of_types-loop-turn
invariant-list_of_types-loop-turn l = l.depth ≡ l.fn.depth

abbrev pub decreases-try_type_arguments : goal.decreases-try_type_arguments
decreases-try_type_arguments l = l.depth

abbrev pub decreases-type_arguments_of_expression : goal.decreases-type_arguments_of_expression
decreases-type_arguments_of_expression l = l.depth

abbrev pub decreases-type_parameters : goal.decreases-type_parameters
decreases-type_parameters l = l.depth

abbrev pub invariant-type_parameters-loop-turn : goal.invariant-type_parameters-loop-turn
invariant-type_parameters-loop-turn l = l.depth ≡ l.fn.depth

abbrev pub decreases-type_parameter : goal.decreases-type_parameter
decreases-type_parameter l = l.depth

abbrev pub invariant-type_parameter-loop-turn : goal.invariant-type_parameter-loop-turn
invariant-type_parameter-loop-turn l = l.depth ≡ l.fn.depth

abbrev pub decreases-object_type : goal.decreases-object_type
decreases-object_type l = l.depth

abbrev pub decreases-members_or_mapping : goal.decreases-members_or_mapping
decreases-members_or_mapping l = l.depth

abbrev pub invariant-members_or_mapping-loop-turn : goal.invariant-members_or_mapping-loop-turn
invariant-members_or_mapping-loop-turn l = l.depth ≡ l.fn.depth

abbrev pub decreases-mapped_type : goal.decreases-mapped_type
decreases-mapped_type l = l.depth

abbrev pub decreases-type_member : goal.decreases-type_member
decreases-type_member l = l.depth

abbrev pub decreases-primary_type : goal.decreases-primary_type
decreases-primary_type l = l.depth

abbrev pub decreases-type_after_is : goal.decreases-type_after_is
decreases-type_after_is l = l.depth

abbrev pub decreases-type_arguments_on_line : goal.decreases-type_arguments_on_line
decreases-type_arguments_on_line l = l.depth

abbrev pub decreases-typeof_type : goal.decreases-typeof_type
decreases-typeof_type l = l.depth

abbrev pub decreases-import_type : goal.decreases-import_type
decreases-import_type l = l.depth

abbrev pub invariant-import_type-loop-turn : goal.invariant-import_type-loop-turn
invariant-import_type-loop-turn l = l.depth ≡ l.fn.depth

abbrev pub decreases-tuple_type : goal.decreases-tuple_type
decreases-tuple_type l = l.depth

abbrev pub invariant-tuple_type-loop-turn : goal.invariant-tuple_type-loop-turn
invariant-tuple_type-loop-turn l = l.depth ≡ l.fn.depth

abbrev pub decreases-template_type : goal.decreases-template_type
decreases-template_type l = l.depth

abbrev pub invariant-template_type-loop-turn : goal.invariant-template_type-loop-turn
invariant-template_type-loop-turn l = l.depth ≡ l.fn.depth

abbrev pub decreases-type_annotation : goal.decreases-type_annotation
decreases-type_annotation l = l.depth

abbrev pub decreases-type_in_brackets : goal.decreases-type_in_brackets
decreases-type_in_brackets l = l.depth

abbrev pub decreases-return_type : goal.decreases-return_type
decreases-return_type l = l.depth

abbrev pub decreases-type_ : goal.decreases-type_
decreases-type_ l = l.depth

abbrev pub invariant-type_-loop-turn : goal.invariant-type_-loop-turn
invariant-type_-loop-turn l = l.depth ≡ l.fn.depth

abbrev pub decreases-branch_of_conditional : goal.decreases-branch_of_conditional
decreases-branch_of_conditional l = l.depth

abbrev pub decreases-constraint_of_conditional : goal.decreases-constraint_of_conditional
decreases-constraint_of_conditional l = l.depth

abbrev pub decreases-function_type : goal.decreases-function_type
decreases-function_type l = l.depth

abbrev pub decreases-union_type : goal.decreases-union_type
decreases-union_type l = l.depth

abbrev pub invariant-union_type-loop-turn : goal.invariant-union_type-loop-turn
invariant-union_type-loop-turn l = l.depth ≡ l.fn.depth

abbrev pub decreases-operator_type : goal.decreases-operator_type
decreases-operator_type l = l.depth

abbrev pub invariant-operator_type-loop-turn : goal.invariant-operator_type-loop-turn
invariant-operator_type-loop-turn l = l.depth ≡ l.fn.depth

abbrev pub decreases-type_brackets : goal.decreases-type_brackets
decreases-type_brackets l = l.depth

abbrev pub invariant-type_brackets-loop-turn : goal.invariant-type_brackets-loop-turn
invariant-type_brackets-loop-turn l = l.depth ≡ l.fn.depth

abbrev pub decreases-infer_type : goal.decreases-infer_type
decreases-infer_type l = l.depth

abbrev pub decreases-constraint_of_infer : goal.decreases-constraint_of_infer
decreases-constraint_of_infer l = l.depth

abbrev pub decreases-typescript_statement : goal.decreases-typescript_statement
decreases-typescript_statement l = l.depth

abbrev pub decreases-declared : goal.decreases-declared
decreases-declared l = l.depth

abbrev pub decreases-typed_declaration : goal.decreases-typed_declaration
decreases-typed_declaration l = l.depth

abbrev pub decreases-module_statement : goal.decreases-module_statement
decreases-module_statement l = l.depth

abbrev pub decreases-interface : goal.decreases-interface
decreases-interface l = l.depth

abbrev pub decreases-type_alias : goal.decreases-type_alias
decreases-type_alias l = l.depth

abbrev pub decreases-enumeration : goal.decreases-enumeration
decreases-enumeration l = l.depth

abbrev pub invariant-enumeration-loop-turn : goal.invariant-enumeration-loop-turn
invariant-enumeration-loop-turn l = l.depth ≡ l.fn.depth
